-- What was seen at the path of a store, before it is opened.
use Rattle.edfstore_open.specs.declared.path.AtPath.{AtPath}
use Rattle.edfstore_open.specs.declared.path.AtPath.TheVariants.{Something, Nothing, EmptyFile}
use Rattle.edfstore_open.specs.declared.path.AtPath.TheVariants.{NoDatabase, NoName, DeadLink}
use Rattle.edfstore_open.specs.declared.path.AtPath.TheVariants.{NoFolder}

-- there is no store, and one may be made: no file in a folder that is there, or an empty one
abbrev pub HasNoStore : AtPath → Type 0
HasNoStore Something = ⊥
HasNoStore Nothing = Unit {0}
HasNoStore EmptyFile = Unit {0}
HasNoStore NoDatabase = ⊥
HasNoStore NoName = ⊥
HasNoStore DeadLink = ⊥
HasNoStore NoFolder = ⊥
