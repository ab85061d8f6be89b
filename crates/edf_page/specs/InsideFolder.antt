-- What is there in a folder in memory: names of which there is something, and the files that were
-- begun.
use Rattle.std.specs.Prelude.{ℕ, List, [], ◌∷◌, Bool, true, false, ◌&&◌, if◌then◌else◌}
use Rattle.std.specs.Prelude.{Option, Some, None, String, string_bytes, bytes_eq, codes}
use Rattle.std.specs.Global.{Global}
use Rattle.std.specs.List.{list_any}
use Rattle.edf_cli.specs.Made.{MadeFile}
use Rattle.edf_cli.specs.There.{There}

-- the name is one of these
abbrev pub is_among : List (String Global) → List ℕ → Bool
is_among names name = list_any (λ (other : String Global). bytes_eq (string_bytes other) name) names

-- what the last whole file of a name held, or what else was there
abbrev pub last_held : List MadeFile → List ℕ → Option (List ℕ) → Option (List ℕ)
last_held [] name other = other
last_held (file ∷ files) name other = last_held files name
    (if file.whole && bytes_eq file.name name then file.bytes else other)

-- what is there, where a file of this name was given
abbrev pub there_in : List ℕ → List ℕ → List (String Global) → List MadeFile → There
there_in own bytes names files name = Some (if is_among names name
    then Some (last_held files name (if bytes_eq own name then Some bytes else None))
    else None)

-- what lines call the first of two files, and the second
abbrev pub first_name : List ℕ
first_name = codes "first"

abbrev pub second_name : List ℕ
second_name = codes "second"

-- both of them, by their names
abbrev pub two_files : List ℕ → List ℕ → List ℕ → Option (List ℕ)
two_files first second name = Some (if bytes_eq first_name name then first else second)

-- the files that were begun, but for those that were forgotten
abbrev pub unforgotten : Bool → List MadeFile → List MadeFile
unforgotten true files = []
unforgotten false files = files
