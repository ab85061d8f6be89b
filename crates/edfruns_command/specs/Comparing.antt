-- What `compare` answers of two files. Its lines are not told of here.
use Rattle.std.specs.Prelude.{◌≡◌, ◌⊎◌, ℕ, List, Option, All}
use Rattle.std.specs.Io.KnownBytes.{Keeps}
use Rattle.edf_cli.specs.Output.{OutputChange}
use Rattle.edf_cli.specs.declared.status.Status.{Status}
use Rattle.edf_cli.specs.declared.status.Status.TheVariants.{Done, Refused, Trouble}
use Rattle.edf_runs.specs.ComparedFiles.{IsCompared, IsCompareFault}
use Rattle.edf_runs.specs.declared.compared.Comparison.{Comparison}
use Rattle.edf_runs.specs.declared.compared.CompareFault.{CompareFault}
use Rattle.edf_runs.specs.declared.compared.CompareFault.TheVariants.{First, Second, Other, Memory}
use Rattle.edf_runs.specs.declared.stretch.Stretch.{Stretch}
use Rattle.edf_runs.specs.declared.stretch.Word.TheVariants.{Known}
use Rattle.edfruns_command.specs.Answering.{Answers}
use Rattle.edfruns_command.specs.Lines.{file_refused_status}

-- All data records of the second file are known, or one is not.
abbrev pub AreKnown : List Stretch → Type 0
AreKnown words = All (λ s. s.word ≡ Known) words

abbrev pub AnswersWords : List Stretch → Status → Type 0
AnswersWords words Done = AreKnown words
AnswersWords words Refused = ¬ AreKnown words
AnswersWords words Trouble = Unit {0}
AnswersWords words other = ⊥

-- A fault of one file has the status of its number, and two recordings are a refusal.
abbrev pub fault_status : CompareFault → Status
fault_status (First fault) = file_refused_status fault
fault_status (Second fault) = file_refused_status fault
fault_status (Other one other) = Refused
fault_status Memory = Trouble

module _ (out : OutputChange) (first second : Option (List ℕ)) (status : Status) where
  -- Both files were read to their ends, and their data records have words that the status tells.
  pub record ComparesFiles : Type 0 where
    pub rest : Option (List ℕ)
    pub rest' : Option (List ℕ)
    pub comparison : Comparison
    pub compared : IsCompared first rest second rest' comparison
    pub answers : AnswersWords comparison.words.items status

  -- They could not be compared, and nothing goes out.
  pub record FailsToCompare : Type 0 where
    pub rest : Option (List ℕ)
    pub rest' : Option (List ℕ)
    pub fault : CompareFault
    pub met : IsCompareFault first rest second rest' fault
    pub nothing : Keeps out.before out.after
    pub answers : Answers (fault_status fault) status

  -- They were compared, or there was a fault, or memory ran out.
  abbrev pub IsComparedOut : Type 0
  IsComparedOut = ComparesFiles ⊎ (FailsToCompare ⊎ (status ≡ Trouble))
