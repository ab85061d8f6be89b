-- The calls of a reader of fragments. `input` has the bytes before a call and `rest` those that
-- remain after it, where these are known; so each call says which bytes it read.
use Rattle.std.specs.Prelude.{◌≡◌, ℕ, ◌+◌, ◌≤◌, ◌<◌, ◌⊎◌, List, [], Option, Some, None}
use Rattle.std.specs.Prelude.{Result, Ok, Err, MatchResult}
use Rattle.std.specs.Io.KnownBytes.{Consumes, IsAtEnd}
use Rattle.edf_header.specs.Header.{HeaderRecord, IsHeader, Layout, layout_of, least_records}
use Rattle.edf_header.specs.Header.{most_records}
use Rattle.edf_tal.specs.declared.place.Place.TheVariants.{First}
use Rattle.edf_fragment.specs.Failures.{saturating_increment}
use Rattle.edf_fragment.specs.Fragment.{DataRecord, IsDataRecord, place_after}
use Rattle.edf_fragment.specs.Stops.{ReadsHeaderFault, EndsInRecord, RefusesRecord}
use Rattle.edf_fragment.specs.Stops.{ReadsTrailingByte, ReadsFewerBytes, StopsInSignalHeaders}
use Rattle.edf_fragment.specs.Stops.{ReadFailsAtRecord, RunsOutOfMemoryInHeader}
use Rattle.edf_fragment.specs.declared.advance.Progress.{Progress}
use Rattle.edf_fragment.specs.declared.advance.ReaderState.{ReaderState}
use Rattle.edf_fragment.specs.declared.advance.ReaderState.TheVariants.{Reading, Ended, Stopped}
use Rattle.edf_fragment.specs.declared.fault.FragmentFault.{FragmentFault}
use Rattle.edf_fragment.specs.declared.fault.FragmentFault.TheVariants.{Header as BadHeader}
use Rattle.edf_fragment.specs.declared.fault.FragmentFault.TheVariants.{CutRecord, Tal, Trailing}
use Rattle.edf_fragment.specs.declared.fault.FragmentFault.TheVariants.{Read, Memory, Failed}

-- A good input: a header, then one record after another, then the end.

-- the bytes that were read are a header of this layout
pub record ReadsHeader (input rest : Option (List ℕ)) (layout : Layout) : Type 0 where
  pub bytes : List ℕ
  pub header : HeaderRecord
  pub read : Consumes input rest bytes
  pub is_header : IsHeader bytes header []
  pub layout_is : layout ≡ layout_of header

-- the progress before the first record
abbrev pub initial_progress : Progress
initial_progress = record { given = 0; place = First; state = Reading }

-- one more record was read: one may come, and the bytes are the record at its place
pub record ReadsRecord (l : Layout) (from : Progress) (input rest : Option (List ℕ))
    (r : DataRecord) : Type 0 where
  pub bytes : List ℕ
  pub may_come : from.given < most_records l.count
  pub read : Consumes input rest bytes
  pub is_record : IsDataRecord l from.place bytes r

-- the records end: no byte remains, and no more record must come
pub record IsEndOfRecords (l : Layout) (from : Progress)
    (input rest : Option (List ℕ)) : Type 0 where
  pub least : least_records l.count ≤ from.given
  pub most : from.given ≤ most_records l.count
  pub read : Consumes input rest []
  pub end : IsAtEnd rest

-- the progress after one more record, after the end, or after a fault
abbrev pub progress_after : Layout → Progress → Result (Option DataRecord) FragmentFault → Progress
progress_after l from (Ok (Some r)) =
    record { given = from.given + 1; place = place_after l r.start; state = Reading }
progress_after l from (Ok None) = record from { state = Ended }
progress_after l from (Err fault) = record from { state = Stopped }

-- memory ran out where a record may come: before a byte of it was read, or after a good one
pub record RunsOutOfMemoryAtRecord (l : Layout) (from : Progress)
    (input rest : Option (List ℕ)) : Type 0 where
  pub may_come : from.given < most_records l.count
  pub read : Consumes input rest [] ⊎ ((r : DataRecord) × ReadsRecord l from input rest r)

-- the count of failed reads is one more where the fault is `Read`, and else the same
abbrev pub CountsReadFault : ℕ → ℕ → FragmentFault → Type 0
CountsReadFault old new Read = new ≡ saturating_increment old
CountsReadFault old new fault = new ≡ old

abbrev pub CountsReadFailures : {X : Type 0} → ℕ → ℕ → Result X FragmentFault → Type 0
CountsReadFailures old new result = MatchResult result (λ x. new ≡ old) (CountsReadFault old new)

-- The faults of both calls, opening and `next`; then the answers of `next`.

-- there is no header, for a fault of the bytes, a failed read, or want of memory
abbrev pub IsOpenFault : Option (List ℕ) → Option (List ℕ) → FragmentFault → Type 0
IsOpenFault input rest (BadHeader fault) = ReadsHeaderFault input rest fault
IsOpenFault input rest Read = ReadsFewerBytes 256 input rest ⊎ StopsInSignalHeaders input rest
IsOpenFault input rest Memory = RunsOutOfMemoryInHeader input rest
IsOpenFault input rest fault = ⊥

-- there is no next record, for a fault of the bytes, a failed read, or want of memory
abbrev pub IsNextFault : Layout → Progress → Option (List ℕ) → Option (List ℕ) → FragmentFault →
    Type 0
IsNextFault l from input rest (CutRecord nth) = EndsInRecord l from input rest nth
IsNextFault l from input rest (Tal nth fault) = RefusesRecord l from input rest nth fault
IsNextFault l from input rest Trailing = ReadsTrailingByte l from input rest
IsNextFault l from input rest Read = ReadFailsAtRecord l from input rest
IsNextFault l from input rest Memory = RunsOutOfMemoryAtRecord l from input rest
IsNextFault l from input rest fault = ⊥

-- a reader that may go on answers with a record, the end or a fault
abbrev pub IsNextResult : Layout → Progress → Option (List ℕ) → Option (List ℕ) →
    Result (Option DataRecord) FragmentFault → Type 0
IsNextResult l from input rest (Ok (Some r)) = ReadsRecord l from input rest r
IsNextResult l from input rest (Ok None) = IsEndOfRecords l from input rest
IsNextResult l from input rest (Err fault) = IsNextFault l from input rest fault

-- nothing was read, and the reader is where it was
abbrev pub ReadsNothing : Progress → Progress → Option (List ℕ) → Option (List ℕ) → Type 0
ReadsNothing from to input rest = (to ≡ from) × (rest ≡ input)

-- a reader in this state answers so: after the end with no record, and after a fault with `Failed`
abbrev pub IsNextAnswerInState : ReaderState → Layout → Progress → Progress → Option (List ℕ) →
    Option (List ℕ) → Result (Option DataRecord) FragmentFault → Type 0
IsNextAnswerInState Reading l from to input rest result = (to ≡ progress_after l from result)
    × IsNextResult l from input rest result
IsNextAnswerInState Ended l from to input rest result = (result ≡ Ok None)
    × ReadsNothing from to input rest
IsNextAnswerInState Stopped l from to input rest result = (result ≡ Err Failed)
    × ReadsNothing from to input rest

-- a reader at `from` answers so, and is at `to` then
abbrev pub IsNextAnswer : Layout → Progress → Progress → Option (List ℕ) → Option (List ℕ) →
    Result (Option DataRecord) FragmentFault → Type 0
IsNextAnswer l from to input rest result =
    IsNextAnswerInState from.state l from to input rest result
