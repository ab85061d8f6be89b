-- One step of a second reading.
use Rattle.std.specs.Prelude.{◌≡◌, ◌≢◌, ℕ, ◌+◌, ◌≤◌, List, [], ◌++◌, length}
use Rattle.std.specs.Prelude.{Option, Some, None, Ok, Result, MatchResult}
use Rattle.edf_field.specs.Number.{duration_of}
use Rattle.edf_header.specs.Header.{Layout, most_records}
use Rattle.edf_tal.specs.declared.place.Place.{Place}
use Rattle.edf_fragment.specs.Fragment.{DataRecord, BeginWithDataRecords}
use Rattle.edf_fragment.specs.Sound.{IsSoundRecord}
use Rattle.edf_fragment.specs.Reading.{ReadsRecord, IsNextAnswer, progress_after}
use Rattle.edf_fragment.specs.declared.advance.Progress.{Progress}
use Rattle.edf_fragment.specs.declared.advance.ReaderState.TheVariants.{Reading}
use Rattle.edf_canonical.specs.declared.fault.OutputFault.{OutputFault}
use Rattle.edf_canonical.specs.declared.fault.SendFault.{SendFault}
use Rattle.edf_canonical.specs.declared.fault.SendFault.TheVariants.{Source as FromSource}
use Rattle.edf_canonical.specs.declared.fault.SendFault.TheVariants.{Unlike, Output as FromOutput}
use Rattle.edf_canonical.specs.declared.fault.OutputFault.TheVariants.{Write as FailedWrite}
use Rattle.edf_canonical.specs.declared.fault.OutputFault.TheVariants.{Memory as NoRoom}
use Rattle.edf_runs.specs.Read.{ReadsOn}
use Rattle.edf_runs.specs.Again.{next_start}
use Rattle.edf_runs.specs.Written.{CountsFault}
use Rattle.edf_runs.specs.Runs.{StartFrom}
use Rattle.edf_runs.specs.declared.run.Run.{Run}
use Rattle.edf_runs.specs.declared.fault.WriteFault.{WriteFault}
use Rattle.edf_runs.specs.declared.fault.WriteFault.TheVariants.{Undated, Changed, Memory, Write}

-- a fault of the output
abbrev pub fault_out : OutputFault → WriteFault
fault_out FailedWrite = Write
fault_out NoRoom = Memory

-- a fault of the writer of data records
abbrev pub send_fault : SendFault WriteFault → WriteFault
send_fault (FromSource fault) = fault
send_fault Unlike = Changed
send_fault (FromOutput fault) = fault_out fault

-- calls are counted so, and a header can name when the run starts
abbrev pub CountsSending : {A : Type 0} → ℕ → ℕ → ℕ → ℕ → Result A WriteFault → Type 0
CountsSending reads reads' writes writes' result =
    MatchResult result (λ _. (reads' ≡ reads) × (writes' ≡ writes))
    (λ fault. CountsFault reads reads' writes writes' fault × (fault ≢ Undated))

-- one more data record was read, which starts at this instant
pub record StepsOn (l : Layout) (from to : Progress) (left rest : Option (List ℕ)) (instant : ℕ)
    (r : DataRecord) : Type 0 where
  pub going : from.state ≡ Reading
  pub is_answer : IsNextAnswer l from to left rest (Ok (Some r))
  pub progress : to ≡ progress_after l from (Ok (Some r))
  pub gives : ReadsRecord l from left rest r
  pub sound : IsSoundRecord l.key r
  pub start : r.start ≡ instant

-- one more data record was read, or the end
abbrev pub ReadsNext : Layout → Progress → Progress → Option (List ℕ) → Option (List ℕ) →
    Option DataRecord → Type 0
ReadsNext l from to left rest None = IsNextAnswer l from to left rest (Ok None)
ReadsNext l from to left rest (Some r) = StepsOn l from to left rest r.start r

-- of these data records the first ones were read, and the input has the others next, as many as may
-- come
pub record HasOthers (l : Layout) (to : Progress) (rest : Option (List ℕ))
    (all records : List DataRecord) : Type 0 where
  pub going : to.state ≡ Reading
  pub others : List DataRecord
  pub parts : all ≡ records ++ others
  pub bytes : List ℕ
  pub known : rest ≡ Some bytes
  pub last : Place
  pub after : List ℕ
  pub are_records : BeginWithDataRecords l to.place bytes others last after
  pub within : to.given + length others ≤ most_records l.count

-- the data records that were read so far, as many as `count`; the next one is to start at `next`;
-- and where as many data records came next as the run has, they are the first of these
pub record ReadSoFar (l : Layout) (from to : Progress) (left rest : Option (List ℕ)) (run : Run)
    (records : List DataRecord) (next count : ℕ) : Type 0 where
  pub read : ReadsOn l from to left rest records
  pub start : StartFrom (duration_of l.key.duration) run.first records
  pub counted : length records ≡ count
  pub next_is : next ≡ next_start l run records
  pub first : (all : List DataRecord) → HasOthers l from left all [] → length all ≡ run.records →
      HasOthers l to rest all records
