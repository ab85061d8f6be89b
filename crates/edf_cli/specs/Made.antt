-- Files that were begun, and what became of them.
use Rattle.std.specs.Prelude.{◌≡◌, ◌≢◌, ◌⊎◌, ℕ, zero, suc, ◌+◌, ◌-◌, ◌^◌, min, List, [], ◌∷◌, ◌++◌}
use Rattle.std.specs.Prelude.{map, Bool, true, false, Option, Some, None, Result, Ok, Err}
use Rattle.edf_cli.specs.declared.new_files.FileStage.{FileStage}
use Rattle.edf_cli.specs.declared.new_files.FileStage.TheVariants.{Begun, Abandoned, Finished}
use Rattle.edf_cli.specs.declared.new_files.FileStage.TheVariants.{Removed}
use Rattle.edf_cli.specs.declared.new_files.FileStage.TheVariants.{NotRemoved}
use Rattle.edf_cli.specs.declared.new_files.Unfinished.{Unfinished}

-- a file that was begun; `bytes` are what its writer held when it was given back, where known
pub record MadeFile : Type 0 where
  pub name : List ℕ
  pub stage : FileStage
  pub whole : Bool
  pub bytes : Option (List ℕ)
  pub why : Option Unfinished

abbrev pub made_file : List ℕ → FileStage → Bool → Option (List ℕ) → Option Unfinished → MadeFile
made_file name stage whole bytes why =
    record { name = name; stage = stage; whole = whole; bytes = bytes; why = why }

-- it is being written
abbrev pub begun : List ℕ → MadeFile
begun name = made_file name Begun false None None

-- its writer was given back before it was whole
abbrev pub half : List ℕ → Option (List ℕ) → MadeFile
half name bytes = made_file name Abandoned false bytes None

-- it is whole, and has its name
abbrev pub finished : List ℕ → Option (List ℕ) → MadeFile
finished name bytes = made_file name Finished true bytes None

-- it was to be removed, and is gone
abbrev pub removed : MadeFile → MadeFile
removed file = made_file file.name Removed file.whole file.bytes file.why

-- it was to be removed, and could not be
abbrev pub not_removed : MadeFile → MadeFile
not_removed file = made_file file.name NotRemoved file.whole file.bytes file.why

-- the stage of one that was to be removed
abbrev pub stage_after : Bool → FileStage
stage_after true = Removed
stage_after false = NotRemoved

-- it did not get its name for this reason, and is gone or not
abbrev pub unnamed : List ℕ → Unfinished → Option (List ℕ) → Bool → MadeFile
unnamed name why bytes is_gone = made_file name (stage_after is_gone) false bytes (Some why)

-- after these files one is finished, whose writer held this; or it did not get its name, and its
-- removal was tried
abbrev pub IsEnded : List MadeFile → List ℕ → Option (List ℕ) → List MadeFile →
    Result ℕ Unfinished → Type 0
IsEnded files name held now (Ok bytes) = now ≡ files ++ (finished name held ∷ [])
IsEnded files name held now (Err why) =
    (is_gone : Bool) × (now ≡ files ++ (unnamed name why held is_gone ∷ []))

-- after these files there is one of this name that is not whole, whatever became of it
pub record HasPart (files : List MadeFile) (name : List ℕ) (now : List MadeFile) : Type 0 where
  pub part : MadeFile
  pub behind : now ≡ files ++ (part ∷ [])
  pub named : part.name ≡ name
  pub is_half : part.whole ≡ false

-- none is being written: there is none, or the last one is at another stage
abbrev pub WritesNone : List MadeFile → Type 0
WritesNone made = (made ≡ []) ⊎ ((files : List MadeFile) × (file : MadeFile)
    × (made ≡ files ++ (file ∷ [])) × (file.stage ≢ Begun))

abbrev pub names_of : List MadeFile → List (List ℕ)
names_of files = map (λ (file : MadeFile). file.name) files

-- the files that were begun, in turn; how many were, also before these; and how many calls failed
pub record Made : Type 0 where
  pub files : List MadeFile
  pub begun_count : ℕ
  pub failed : ℕ

-- a count of failed calls after so many more
abbrev pub failed_with : ℕ → ℕ → ℕ
failed_with failed zero = failed
failed_with failed (suc more) = min (failed + suc more) (2 ^ 64 - 1)
