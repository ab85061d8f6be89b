-- What private functions of `split` do.
use Rattle.std.specs.Prelude.{◌≡◌, ◌⊎◌, ℕ, List, [], ◌∷◌, ◌++◌, Option, None, Ok}
use Rattle.std.specs.List.{flat_map, AllZip}
use Rattle.edf_field.specs.Number.{duration_of}
use Rattle.edf_header.specs.Header.{Layout}
use Rattle.edf_fragment.specs.Fragment.{DataRecord}
use Rattle.edf_fragment.specs.Reading.{IsNextAnswer, initial_progress}
use Rattle.edf_fragment.specs.Whole.{ReadsFragment}
use Rattle.edf_fragment.specs.declared.advance.Progress.{Progress}
use Rattle.edf_runs.specs.Read.{ReadsOn}
use Rattle.edf_runs.specs.Runs.{IsListed}
use Rattle.edf_runs.specs.declared.run.Run.{Run}
use Rattle.edf_runs.specs.declared.run_list.Listing.{Listing}
use Rattle.edf_cli.specs.Made.{MadeFile, HasPart, names_of}
use Rattle.edf_cli.specs.Making.{Making, MakesNothing}
use Rattle.edfruns_command.specs.Splitting.{HoldsRun, RereadsFirst}

abbrev pub IsAtEnd : Layout → Progress → Progress → Option (List ℕ) → Option (List ℕ) → Type 0
IsAtEnd l from to input rest = IsNextAnswer l from to input rest (Ok None)

-- ---- one file

-- it was made, of the run whose data records were read
pub record MakesFile (m : Making) (name : List ℕ) (l : Layout) (from to : Progress)
    (input rest : Option (List ℕ)) (run : Run) : Type 0 where
  pub records : List DataRecord
  pub read : ReadsOn l from to input rest records
  pub listed : IsListed (duration_of l.key.duration) records run
  pub file : MadeFile
  pub made : m.after ≡ m.before ++ (file ∷ [])
  pub named : file.name ≡ name
  pub held : HoldsRun m.known l.key records file
  pub unfailed : m.failed_after ≡ m.failed_before

-- it could not be begun, or is not whole
abbrev pub LacksFile : Making → List ℕ → Type 0
LacksFile m name = (m.after ≡ m.before) ⊎ HasPart m.before name m.after

-- ---- all files

-- of each of the runs one of these names was made, and their data records were read
pub record MakesEach (m : Making) (names : List (List ℕ)) (l : Layout) (to : Progress)
    (input rest : Option (List ℕ)) (runs : List Run) : Type 0 where
  pub parts : List (List DataRecord)
  pub listed : AllZip (IsListed (duration_of l.key.duration)) parts runs
  pub read : ReadsOn l initial_progress to input rest (flat_map (λ part. part) parts)
  pub files : List MadeFile
  pub made : m.after ≡ m.before ++ files
  pub named : names_of files ≡ names
  pub held : AllZip (HoldsRun m.known l.key) parts files
  pub unfailed : m.failed_after ≡ m.failed_before

-- the file was read again to its end
pub record MakesRuns (m : Making) (bytes : Option (List ℕ)) (listing : Listing)
    (names : List (List ℕ)) : Type 0 where
  pub layout : Layout
  pub rest : Option (List ℕ)
  pub runs : List (List DataRecord)
  pub read : ReadsFragment bytes rest layout (flat_map (λ run. run) runs)
  pub same : layout.key ≡ listing.identity
  pub listed : AllZip (IsListed (duration_of layout.key.duration)) runs listing.runs.items
  pub files : List MadeFile
  pub made : m.after ≡ m.before ++ files
  pub named : names_of files ≡ names
  pub held : AllZip (HoldsRun m.known layout.key) runs files
  pub unfailed : m.failed_after ≡ m.failed_before

-- not all were made, or more than the runs came
abbrev pub StopsMaking : Making → Option (List ℕ) → Listing → List (List ℕ) → Type 0
StopsMaking m bytes listing names = MakesNothing m ⊎ RereadsFirst m bytes listing names
