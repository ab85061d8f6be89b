-- What a second reading finds of a file whose runs were listed.
use Rattle.std.specs.Prelude.{◌≡◌, ◌≢◌, ℕ, ◌+◌, ◌*◌, ◌≤◌, ◌⊎◌, List, length, Option, Some, None}
use Rattle.std.specs.Prelude.{Result, Ok, Err, MatchResult}
use Rattle.edf_field.specs.Number.{duration_of}
use Rattle.edf_header.specs.Key.{Key}
use Rattle.edf_header.specs.Header.{Layout, most_records}
use Rattle.edf_header.specs.declared.fault.HeaderFault.{HeaderFault}
use Rattle.edf_tal.specs.declared.place.Place.{Place}
use Rattle.edf_fragment.specs.Failures.{saturating_increment}
use Rattle.edf_fragment.specs.Fragment.{DataRecord, BeginWithDataRecords}
use Rattle.edf_fragment.specs.Reading.{ReadsHeader, IsOpenFault, IsNextAnswer}
use Rattle.edf_fragment.specs.declared.advance.Progress.{Progress}
use Rattle.edf_fragment.specs.declared.advance.ReaderState.TheVariants.{Reading}
use Rattle.edf_fragment.specs.declared.fault.FragmentFault.{FragmentFault}
use Rattle.edf_fragment.specs.declared.fault.FragmentFault.TheVariants.{Header as BadHeader}
use Rattle.edf_fragment.specs.declared.fault.FragmentFault.TheVariants.{Read as FailedRead}
use Rattle.edf_fragment.specs.declared.fault.FragmentFault.TheVariants.{Memory as NoMemory}
use Rattle.edf_fragment.specs.declared.open_fragment.OpenFragment.{OpenFragment}
use Rattle.edf_runs.specs.Runs.{IsListed}
use Rattle.edf_runs.specs.declared.run.Run.{Run}
use Rattle.edf_runs.specs.declared.fault.WriteFault.{WriteFault}
use Rattle.edf_runs.specs.declared.fault.WriteFault.TheVariants.{Undated, Changed, Read, Memory}
use Rattle.edf_runs.specs.declared.fault.WriteFault.TheVariants.{Write}

-- why a second reading stops, by the fault that it met: the file had no fault of form when its runs
-- were listed, so one of form means that it changed
abbrev pub fault_again : FragmentFault → WriteFault
fault_again FailedRead = Read
fault_again NoMemory = Memory
fault_again fault = Changed

-- the header is refused now, or names another recording
abbrev pub IsOtherHeader : Option (List ℕ) → Option (List ℕ) → Key → Type 0
IsOtherHeader left rest key =
    ((fault : HeaderFault) × IsOpenFault left rest (BadHeader fault))
    ⊎ ((layout : Layout) × ReadsHeader left rest layout × ¬ (layout.key ≡ key))

-- why the second reading stopped at the header
abbrev pub IsNotReopened : Option (List ℕ) → Option (List ℕ) → Key → WriteFault → Type 0
IsNotReopened left rest key Changed = IsOtherHeader left rest key
IsNotReopened left rest key Read = IsOpenFault left rest FailedRead
IsNotReopened left rest key Memory = IsOpenFault left rest NoMemory
IsNotReopened left rest key fault = ⊥

-- the fault where an answer is no data record that starts at this instant
abbrev pub IsFaultBy : ℕ → Result (Option DataRecord) FragmentFault → WriteFault → Type 0
IsFaultBy instant (Ok (Some r)) fault = (fault ≡ Changed) × (¬ (r.start ≡ instant))
IsFaultBy instant (Ok None) fault = fault ≡ Changed
IsFaultBy instant (Err refused) fault = fault ≡ fault_again refused

-- one more data record was asked for, which was to start at this instant, and this is the fault
pub record StopsAt (l : Layout) (from to : Progress) (left rest : Option (List ℕ)) (instant : ℕ)
    (fault : WriteFault) : Type 0 where
  pub answer : Result (Option DataRecord) FragmentFault
  pub is_answer : IsNextAnswer l from to left rest answer
  pub why : IsFaultBy instant answer fault

-- when the data record after these starts
abbrev pub next_start : Layout → Run → List DataRecord → ℕ
next_start l run records = run.first + length records * duration_of l.key.duration

-- the run comes next: the input has data records, whose number the header allows, of which just
-- this was listed
pub record ComesNext (l : Layout) (from : Progress) (left : Option (List ℕ)) (run : Run) : Type 0
  where
    pub going : from.state ≡ Reading
    pub bytes : List ℕ
    pub known : left ≡ Some bytes
    pub records : List DataRecord
    pub last : Place
    pub rest : List ℕ
    pub are_records : BeginWithDataRecords l from.place bytes records last rest
    pub within : from.given + length records ≤ most_records l.count
    pub listed : IsListed (duration_of l.key.duration) records run

-- a call that reads the run again leaves the header, and finds no change where the run comes next
pub record RereadsRun {A : Type 0} (old new : OpenFragment) (left : Option (List ℕ)) (run : Run)
    (result : Result A WriteFault) : Type 0 where
  pub header : new.header ≡ old.header
  pub unchanged : ComesNext old.header old.progress left run → result ≢ Err Changed

-- a second reading stops for what it reads or for want of memory; a read failed where the fault is
-- `Read`, and none did before another
abbrev pub CountsRereadFault : ℕ → ℕ → WriteFault → Type 0
CountsRereadFault old new Undated = ⊥
CountsRereadFault old new Changed = new ≡ old
CountsRereadFault old new Read = new ≡ saturating_increment old
CountsRereadFault old new Memory = new ≡ old
CountsRereadFault old new Write = ⊥

abbrev pub CountsRereads : {A : Type 0} → ℕ → ℕ → Result A WriteFault → Type 0
CountsRereads old new result = MatchResult result (λ _. new ≡ old) (CountsRereadFault old new)
