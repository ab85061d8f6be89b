-- What programs do with one file in memory: what they write, and which files they leave.
use Rattle.std.specs.Prelude.{◌≡◌, ◌⊎◌, ◌∷◌, [], ℕ, List, Some, None, All, bytes_eq}
use Rattle.std.specs.Prelude.{Bool, true, false, if◌then◌else◌, String, string_bytes, option_map}
use Rattle.std.specs.Global.{Global}
use Rattle.std.specs.List.{AllZip, flat_map}
use Rattle.edf_cli.specs.Made.{MadeFile, made_file}
use Rattle.edf_cli.specs.Making.{Making}
use Rattle.edf_cli.specs.There.{There}
use Rattle.edf_cli.specs.declared.new_files.FileStage.{FileStage}
use Rattle.edf_cli.specs.declared.new_files.FileStage.TheVariants.{Finished, Removed}
use Rattle.edf_cli.specs.Output.{OutputChange}
use Rattle.edf_cli.specs.Status.{exit_code}
use Rattle.edf_cli.specs.Words.{IsCommandFaultPrinted}
use Rattle.edf_cli.specs.declared.words.CommandFault.TheVariants as fault
use Rattle.edfmend_command.specs.Run.{IsMendDone}
use Rattle.edfmend_command.specs.Run as mend
use Rattle.edfmend_command.specs.Words.{Values, Mean, MeanNothing}
use Rattle.edfruns_command.specs.Run.{Asked, IsDone, HasMade}
use Rattle.edfruns_command.specs.Run.Asked.{compare}
use Rattle.edf_page.specs.InsideFolder.{first_name, second_name, two_files}
use Rattle.edf_page.specs.declared.begun.BegunFile.{BegunFile}
use Rattle.edf_page.specs.declared.begun.NamedFile.{NamedFile}
use Rattle.edf_page.specs.declared.programs.Ran.{Ran}

-- ---- the files that are made

-- a file that was begun, as contracts of what makes files have it
abbrev pub made_of : BegunFile → MadeFile
made_of file = made_file (string_bytes file.name) file.stage file.is_whole
    (option_map (λ bytes. bytes.items) file.bytes) file.why

-- it is there under its name with all that was written
abbrev pub is_finished : FileStage → Bool
is_finished Finished = true
is_finished stage = false

-- those that are, of the files that were begun
abbrev pub finished_of : List MadeFile → List MadeFile
finished_of [] = []
finished_of (file ∷ files) =
    if is_finished file.stage then file ∷ finished_of files else finished_of files

-- one is given back by its name and its bytes
pub record IsGivenBack (made : MadeFile) (file : NamedFile) : Type 0 where
  pub name : made.name ≡ string_bytes file.name
  pub bytes : made.bytes ≡ Some file.bytes.items

-- it is there whole, or no part of it is: it was removed
abbrev pub IsWholeOrGone : MadeFile → Type 0
IsWholeOrGone made = (made.stage ≡ Finished) ⊎ (made.stage ≡ Removed)

-- where a file of this name is given, that is there under it, and nothing under any other
abbrev pub given_there : List ℕ → List ℕ → There
given_there name bytes other =
    Some (if bytes_eq name other then Some (Some bytes) else None)

-- no file was made before, and no call failed; just the file that is given was there. The bytes of
-- files are known, those that are there at the end are given back in turn, and the others were
-- removed.
pub record MakesInMemory (name bytes : List ℕ) (m : Making) (files : List NamedFile) : Type 0 where
  pub known : m.known ≡ true
  pub there : (other : List ℕ) → m.there other ≡ given_there name bytes other
  pub none : m.before ≡ []
  pub unfailed : m.failed_before ≡ 0
  pub given_back : AllZip IsGivenBack (finished_of m.after) files
  pub gone : All IsWholeOrGone m.after

-- ---- what is written

-- a text in memory, where at first nothing was written and no write had failed
pub record IsText (w : OutputChange) (text : List ℕ) : Type 0 where
  pub empty : w.before ≡ Some []
  pub unfailed : w.failed_before ≡ 0
  pub is : w.after ≡ Some text

-- no call or write failed, as one does where memory runs out
abbrev pub NoneFailed : Making → OutputChange → OutputChange → Type 0
NoneFailed made out err =
    (made.failed_after ≡ 0) × (out.failed_after ≡ 0) × (err.failed_after ≡ 0)

-- ---- what the programs do

-- what `edfruns` does where this is asked for, with a file of this name, which has these bytes
pub record RunsDone (name bytes : List ℕ) (asked : Asked) (ran : Ran) : Type 0 where
  pub made : Making
  pub out : OutputChange
  pub err : OutputChange
  pub done : IsDone (λ _. Some bytes) made out err asked ran.status
  pub made_by : HasMade made asked
  pub files : MakesInMemory name bytes made ran.files.items
  pub unfailed : NoneFailed made out err
  pub written : IsText out ran.out.items
  pub told : IsText err ran.err.items

-- what `edfruns compare` does with these two, and it makes no file
pub record CompareDone (first second : List ℕ) (ran : Ran) : Type 0 where
  pub made : Making
  pub out : OutputChange
  pub err : OutputChange
  pub done : IsDone (two_files first second) made out err (compare first_name second_name)
      ran.status
  pub unfailed : (out.failed_after ≡ 0) × (err.failed_after ≡ 0)
  pub written : IsText out ran.out.items
  pub told : IsText err ran.err.items
  pub none : ran.files.items ≡ []

-- what `edfmend` does so
pub record MendDone (name bytes : List ℕ) (asked : mend.Asked) (ran : Ran) : Type 0 where
  pub made : Making
  pub out : OutputChange
  pub err : OutputChange
  pub done : IsMendDone made out err (Some bytes) asked ran.status
  pub files : MakesInMemory name bytes made ran.files.items
  pub unfailed : NoneFailed made out err
  pub written : IsText out ran.out.items
  pub told : IsText err ran.err.items

-- this text says that nothing can be done; no file is made
pub record TellsUsage (text : String Global) (ran : Ran) : Type 0 where
  pub out : OutputChange
  pub err : OutputChange
  pub says : IsCommandFaultPrinted out err (fault.Usage text) ran.status
  pub unfailed : err.failed_after ≡ 0
  pub written : IsText out ran.out.items
  pub told : IsText err ran.err.items
  pub none : ran.files.items ≡ []

-- what comes of `edfmend` by these values of its words: what they mean, or nothing can be done
abbrev pub IsMendRan : Values → List ℕ → List ℕ → Ran → Type 0
IsMendRan values name bytes ran =
    ((asked : mend.Asked) × Mean values asked × MendDone name bytes asked ran)
    ⊎ ((text : String Global) × MeanNothing values × TellsUsage text ran)

-- ---- one piece after another

-- the name and the bytes of a file
abbrev pub pieces_of_file : NamedFile → List (List ℕ)
pieces_of_file file = string_bytes file.name ∷ file.bytes.items ∷ []

-- the number of its status, what it wrote to standard output and to standard error, and its files
abbrev pub pieces_of_ran : Ran → List (List ℕ)
pieces_of_ran ran = (exit_code ran.status ∷ []) ∷ ran.out.items ∷ ran.err.items
    ∷ flat_map pieces_of_file ran.files.items
