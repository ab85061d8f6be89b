-- A run that is read again, data record by data record.
use Rattle.std.specs.Prelude.{◌≡◌, ℕ, ◌+◌, ◌*◌, ◌<◌, ◌≤◌, ◌⊎◌, List, [], ◌∷◌, ◌++◌}
use Rattle.std.specs.Prelude.{Option, Some, None, Result, Ok, Err}
use Rattle.edf_field.specs.Number.{duration_of}
use Rattle.edf_header.specs.declared.limits.TheConstants.{MOST_RECORDS}
use Rattle.edf_tal.specs.declared.limits.TheConstants.{MOST_ANNOTATIONS}
use Rattle.edf_fragment.specs.Fragment.{DataRecord}
use Rattle.edf_fragment.specs.declared.open_fragment.OpenFragment.{OpenFragment}
use Rattle.edf_fragment.specs.declared.streams.Input.{Ghosts}
use Rattle.edf_runs.specs.Again.{StopsAt, CountsRereads}
use Rattle.edf_runs.specs.Inside.Steps.{StepsOn}
use Rattle.edf_runs.specs.Inside.Tally.{IsTallied}
use Rattle.edf_runs.specs.declared.fault.WriteFault.{WriteFault}
use Rattle.edf_runs.specs.declared.fault.WriteFault.TheVariants.{Changed}
use Rattle.edf_runs.specs.declared.rereading.RunAgain.{RunAgain}
use Rattle.edf_runs.specs.declared.run.Run.{Run}
use Rattle.edf_runs.specs.declared.tally.Tally.{Tally}

-- what is counted with one data record more, where few were counted
abbrev pub CountsOneMore : Tally → DataRecord → Tally → Type 0
CountsOneMore tally r more = tally.annotations ≤ MOST_RECORDS * MOST_ANNOTATIONS →
    (d : ℕ) (run : Run) (records : List DataRecord) → IsTallied d run records tally →
    IsTallied d run (records ++ r ∷ []) more

module _ {R : Type 0} (g : Ghosts R) (from : RunAgain) (old : OpenFragment) (left : R)
    (to : RunAgain) (new : OpenFragment) (rest : R) where
  -- nothing was read
  pub record RestsHere : Type 0 where
    pub progress : new.progress ≡ old.progress
    pub unread : g.remaining rest ≡ g.remaining left

  -- one more was read, which the run lacked and which starts when it is to, and it was counted
  pub record GivesNext (r : DataRecord) : Type 0 where
    pub few : from.nth < from.run.now.records
    pub step : StepsOn old.header old.progress new.progress (g.remaining left) (g.remaining rest)
        from.next r
    pub nth : to.nth ≡ from.nth + 1
    pub next : to.next ≡ from.next + duration_of old.header.key.duration
    pub counts : CountsOneMore from.tally r to.tally

  -- where the run ends
  abbrev pub ends : ℕ
  ends = from.run.now.last + duration_of old.header.key.duration

  -- as many were read as it has, and it ends when it is to
  pub record GivesNoMore : Type 0 where
    pub all : from.run.now.records ≤ from.nth
    pub end : from.next ≡ ends
    pub rests : RestsHere
    pub tally : to.tally ≡ from.tally

  -- as many were read, and it ends otherwise
  pub record EndsOtherwise (fault : WriteFault) : Type 0 where
    pub rests : RestsHere
    pub all : from.run.now.records ≤ from.nth
    pub end : ¬ (from.next ≡ ends)
    pub changed : fault ≡ Changed

  -- why none is given: that, or the next one was refused
  abbrev pub IsRefused : WriteFault → Type 0
  IsRefused fault = EndsOtherwise fault ⊎ ((from.nth < from.run.now.records)
      × StopsAt old.header old.progress new.progress (g.remaining left) (g.remaining rest)
      from.next fault)

  abbrev pub AnswersRun : Result (Option DataRecord) WriteFault → Type 0
  AnswersRun (Ok (Some r)) = GivesNext r
  AnswersRun (Ok None) = GivesNoMore
  AnswersRun (Err fault) = IsRefused fault

  -- after which the header and what is to come are as they were
  pub record ReadsRun (answer : Result (Option DataRecord) WriteFault) : Type 0 where
    pub run : to.run.now ≡ from.run.now
    pub header : new.header ≡ old.header
    pub counted : CountsRereads (g.failures left) (g.failures rest) answer
    pub answers : AnswersRun answer
