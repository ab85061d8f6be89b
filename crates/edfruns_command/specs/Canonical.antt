-- What `canonical` does: what it writes, and the status that it answers.
use Rattle.std.specs.Prelude.{◌≡◌, ◌⊎◌, ℕ, zero, suc, List, [], Bool, true, false, Option}
use Rattle.edf_field.specs.Number.{duration_of}
use Rattle.edf_header.specs.Header.{Layout}
use Rattle.edf_header.specs.Key.{Key}
use Rattle.edf_fragment.specs.Failures.{saturating_increment}
use Rattle.edf_fragment.specs.Fragment.{DataRecord}
use Rattle.edf_fragment.specs.Whole.{ReadsFragment}
use Rattle.edf_cli.specs.Output.{OutputChange, Gets, IsWritten, Explains}
use Rattle.edf_cli.specs.declared.status.Status.{Status}
use Rattle.edf_cli.specs.declared.status.Status.TheVariants.{Done, Refused, Trouble}
use Rattle.edf_runs.specs.ByOnset.{by_onset}
use Rattle.edf_runs.specs.Canonical.{IsCanonicalWritten, IsCanonicalUnwritten}
use Rattle.edf_runs.specs.Crowded.{IsFirstCrowded}
use Rattle.edf_runs.specs.OneByOnset.{outside_count}
use Rattle.edf_runs.specs.declared.fault.WriteFault.{WriteFault}
use Rattle.edf_runs.specs.declared.fault.WriteFault.TheVariants as fault
use Rattle.edfruns_command.specs.Lines.{canonical_refused_line, crowded_line, outside_line}
use Rattle.edfruns_command.specs.Listing.{RefusesFile, LacksMemory}

-- The file was read to its end, and spells these data records.
pub record HasRecords (bytes : Option (List ℕ)) (k : Key) (records : List DataRecord) : Type 0 where
  pub rest : Option (List ℕ)
  pub layout : Layout
  pub same : layout.key ≡ k
  pub read : ReadsFragment bytes rest layout records

-- Their canonical file goes out, or that of these data records by onset.
abbrev pub arranged : Bool → List DataRecord → List DataRecord
arranged false records = records
arranged true records = by_onset records

-- By onset, a line tells how many annotations have an onset that no data record has.
abbrev pub told_outside : Bool → Key → List DataRecord → ℕ
told_outside false k records = 0
told_outside true k records = outside_count (duration_of k.duration) records

-- By onset a data record in the run of this number, and none before it, has too many annotations.
abbrev pub HasCrowded : Bool → Key → List DataRecord → ℕ → Type 0
HasCrowded false k records number = ⊥
HasCrowded true k records number = IsFirstCrowded (duration_of k.duration) (by_onset records) number

-- One more write failed where a failed write is the fault, and none before another.
abbrev pub CountsWrite : OutputChange → WriteFault → Type 0
CountsWrite w fault.Write = w.failed_after ≡ saturating_increment w.failed_before
CountsWrite w why = w.failed_after ≡ w.failed_before

module _ (out : OutputChange) (bytes : Option (List ℕ)) (k : Key) (ones : List DataRecord) where
  -- The file was read again, and the canonical file went out.
  pub record WritesFile : Type 0 where
    pub rest : Option (List ℕ)
    pub len : ℕ
    pub written : IsCanonicalWritten bytes rest out.before out.after k ones len
    pub counted : out.failed_after ≡ out.failed_before

  -- The second reading stopped, or the writing.
  pub record StopsInFile (why : WriteFault) : Type 0 where
    pub unwritten : IsCanonicalUnwritten bytes out.before out.after k ones why
    pub counted : CountsWrite out why

  -- Or memory ran out before the file was opened again.
  abbrev pub StopsAgain : WriteFault → Type 0
  StopsAgain why = StopsInFile why ⊎ (Gets out [] × (why ≡ fault.Memory))

-- A line tells of how many annotations no data record has the onset, where there are any.
abbrev pub TellsOutside : OutputChange → List ℕ → ℕ → Status → Type 0
TellsOutside err name zero status = Gets err [] × (status ≡ Done)
TellsOutside err name (suc count) status = IsWritten err (outside_line name (suc count)) Done status

module _ (out err : OutputChange) (bytes : Option (List ℕ)) (name : List ℕ) (by_onset : Bool)
    (status : Status) where
  -- The canonical file went out.
  pub record WritesCanonical : Type 0 where
    pub key : Key
    pub records : List DataRecord
    pub has : HasRecords bytes key records
    pub writes : WritesFile out bytes key (arranged by_onset records)
    pub said : TellsOutside err name (told_outside by_onset key records) status

  -- It did not, or not whole, and a line says why.
  pub record StopsWriting : Type 0 where
    pub key : Key
    pub records : List DataRecord
    pub has : HasRecords bytes key records
    pub why : WriteFault
    pub stops : StopsAgain out bytes key (arranged by_onset records) why
    pub said : IsWritten err (canonical_refused_line name why) Trouble status

  -- By onset a data record would have too many annotations; the line names its run.
  pub record FindsCrowded : Type 0 where
    pub key : Key
    pub records : List DataRecord
    pub has : HasRecords bytes key records
    pub number : ℕ
    pub crowded : HasCrowded by_onset key records number
    pub said : Explains out err (crowded_line number) Refused status

  -- Nothing is written for that, for a fault of the file, or for want of memory.
  abbrev pub IsCanonicalOut : Type 0
  IsCanonicalOut = WritesCanonical ⊎ (StopsWriting ⊎ (FindsCrowded
      ⊎ (RefusesFile out err bytes name status ⊎ LacksMemory out err bytes name status)))
