-- What the writing of a run does: its file goes out, or a front of it.
use Rattle.std.specs.Prelude.{◌≡◌, ℕ, ◌*◌, ◌<◌, ◌≤◌, ◌⊎◌, List, ◌++◌, length, Option}
use Rattle.std.specs.Prelude.{Result, MatchResult}
use Rattle.std.specs.List.{flat_map}
use Rattle.std.specs.Io.KnownBytes.{Appends, Keeps}
use Rattle.edf_field.specs.Number.{duration_of}
use Rattle.edf_header.specs.Key.{Key, MayStart}
use Rattle.edf_header.specs.Header.{Layout}
use Rattle.edf_header.specs.Canonical.{IsCanonicalHeader}
use Rattle.edf_fragment.specs.Failures.{saturating_increment}
use Rattle.edf_fragment.specs.Fragment.{DataRecord}
use Rattle.edf_fragment.specs.Reading.{IsNextAnswer}
use Rattle.edf_fragment.specs.declared.advance.Progress.{Progress}
use Rattle.edf_fragment.specs.declared.fault.FragmentFault.{FragmentFault}
use Rattle.edf_canonical.specs.File.{second_of, record_text, BlocksFit}
use Rattle.edf_canonical.specs.Output.{WritesPrefix}
use Rattle.edf_runs.specs.Counted.{AreCounted}
use Rattle.edf_runs.specs.File.{marked_continuous, IsRunFile}
use Rattle.edf_runs.specs.Read.{ReadsOn}
use Rattle.edf_runs.specs.Runs.{StartFrom, IsListed}
use Rattle.edf_runs.specs.declared.run.Run.{Run}
use Rattle.edf_runs.specs.declared.written.Written.{Written}
use Rattle.edf_runs.specs.declared.fault.WriteFault.{WriteFault}
use Rattle.edf_runs.specs.declared.fault.WriteFault.TheVariants.{Undated, Changed, Read, Memory}
use Rattle.edf_runs.specs.declared.fault.WriteFault.TheVariants.{Write}

-- the header of a run's file: the canonical one, with the mark EDF+C
abbrev pub IsRunHeader : List ℕ → Key → Run → Type 0
IsRunHeader header k run =
    (canonical : List ℕ) × IsCanonicalHeader canonical k run.first run.records run.block_samples
    × (header ≡ marked_continuous canonical)

-- the data records as they are in a run's file
abbrev pub run_text : Run → List DataRecord → List ℕ
run_text run records = flat_map (record_text (second_of run.first) (2 * run.block_samples)) records

-- nothing went out, or a front of the run's header and these data records
abbrev pub WritesRunFront : Key → Option (List ℕ) → Option (List ℕ) → Run → List DataRecord → Type 0
WritesRunFront k before after run records =
    Keeps before after ⊎ ((header : List ℕ) × IsRunHeader header k run
    × WritesPrefix before after (header ++ run_text run records))

-- nothing more was read; or one more data record was asked for, where the run still lacked one
abbrev pub ReadsOneMoreAtMost : Layout → Progress → Progress → Option (List ℕ) → Option (List ℕ) →
    ℕ → Run → Type 0
ReadsOneMoreAtMost l from to left rest count run =
    ((to ≡ from) × (rest ≡ left))
    ⊎ ((count < run.records) × ((answer : Result (Option DataRecord) FragmentFault)
    × IsNextAnswer l from to left rest answer))

-- nothing was read or written, since no header can name when the run starts: the Startdate subfield
-- is X and the run starts in 2085 or later, which the two-digit year of the startdate can't tell
pub record CannotBegin (l : Layout) (from to : Progress) (left rest before after : Option (List ℕ))
    (run : Run) : Type 0 where
  pub undated : ¬ MayStart l.key run.first
  pub progress : to ≡ from
  pub unread : rest ≡ left
  pub unwritten : Keeps before after

-- data records were read of which just this was listed; their file went out, the only one that they
-- have, and this is its length, and what is counted of their annotations
pub record IsRunWritten (l : Layout) (from to : Progress) (left rest before after : Option (List ℕ))
    (run : Run) (written : Written) : Type 0 where
  pub records : List DataRecord
  pub read : ReadsOn l from to left rest records
  pub listed : IsListed (duration_of l.key.duration) records run
  pub file : List ℕ
  pub is_file : IsRunFile file l.key records
  pub only : (other : List ℕ) → IsRunFile other l.key records → other ≡ file
  pub wrote : Appends before after file
  pub len_is : written.bytes ≡ length file
  pub counted : AreCounted (duration_of l.key.duration) run records written.annotations
      written.outside

-- the first data records of the run were read, and of its header and these a front went out, or
-- nothing; and no more was read than one data record that the run still lacked
pub record StopsInRun (l : Layout) (from to : Progress) (left rest before after : Option (List ℕ))
    (run : Run) : Type 0 where
  pub records : List DataRecord
  pub mid : Progress
  pub middle : Option (List ℕ)
  pub read : ReadsOn l from mid left middle records
  pub start : StartFrom (duration_of l.key.duration) run.first records
  pub within : length records ≤ run.records
  pub holds : BlocksFit (second_of run.first) run.block_samples records
  pub prefix : WritesRunFront l.key before after run records
  pub more : ReadsOneMoreAtMost l mid to middle rest (length records) run

-- why a run was not written, or not to its end
abbrev pub IsRunUnwritten : Layout → Progress → Progress → Option (List ℕ) → Option (List ℕ) →
    Option (List ℕ) → Option (List ℕ) → Run → WriteFault → Type 0
IsRunUnwritten l from to left rest before after run Undated =
    CannotBegin l from to left rest before after run
IsRunUnwritten l from to left rest before after run Changed =
    StopsInRun l from to left rest before after run
IsRunUnwritten l from to left rest before after run Read =
    StopsInRun l from to left rest before after run
IsRunUnwritten l from to left rest before after run Memory =
    StopsInRun l from to left rest before after run
IsRunUnwritten l from to left rest before after run Write =
    StopsInRun l from to left rest before after run

-- a read failed where the fault is `Read`; a write failed, or took none of some bytes, where it is
-- `Write`; and none failed before another fault
abbrev pub CountsFault : ℕ → ℕ → ℕ → ℕ → WriteFault → Type 0
CountsFault reads reads' writes writes' Undated = (reads' ≡ reads) × (writes' ≡ writes)
CountsFault reads reads' writes writes' Changed = (reads' ≡ reads) × (writes' ≡ writes)
CountsFault reads reads' writes writes' Read = (reads' ≡ saturating_increment reads)
    × (writes' ≡ writes)
CountsFault reads reads' writes writes' Memory = (reads' ≡ reads) × (writes' ≡ writes)
CountsFault reads reads' writes writes' Write = (reads' ≡ reads)
    × (writes' ≡ saturating_increment writes)

-- and none failed where the file went out whole
abbrev pub CountsCalls : {A : Type 0} → ℕ → ℕ → ℕ → ℕ → Result A WriteFault → Type 0
CountsCalls reads reads' writes writes' result =
    MatchResult result (λ _. (reads' ≡ reads) × (writes' ≡ writes))
    (CountsFault reads reads' writes writes')
