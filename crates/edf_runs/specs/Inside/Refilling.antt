-- One answer of a recording that is read again, whose filled file is sent.
use Rattle.std.specs.Prelude.{◌≡◌, ℕ, List, [], length, Option, Some, None, Result, Ok, Err}
use Rattle.edf_fragment.specs.Fragment.{DataRecord}
use Rattle.edf_fragment.specs.Reading.{IsNextAnswer}
use Rattle.edf_fragment.specs.Sound.{IsValidRecord}
use Rattle.edf_fragment.specs.declared.open_fragment.OpenFragment.{OpenFragment}
use Rattle.edf_fragment.specs.declared.streams.Input.{Ghosts}
use Rattle.edf_runs.specs.Inside.Steps.{StepsOn}
use Rattle.edf_runs.specs.Inside.ToCome.{part_by, TakesPlace}
use Rattle.edf_runs.specs.declared.fault.WriteFault.{WriteFault}
use Rattle.edf_runs.specs.declared.filled_places.Origin.{Origin}
use Rattle.edf_runs.specs.declared.filled_places.Origin.TheVariants.{Flat, First, Later}
use Rattle.edf_runs.specs.declared.filled_places.Place.{Place}
use Rattle.edf_runs.specs.declared.filled_source.FilledSource.{FilledSource}
use Rattle.edf_runs.specs.declared.parted.FilledParts.{FilledParts}

module _ {R : Type 0} (g : Ghosts R) where
  -- Nothing was read.
  pub record ReadsNone (old new : OpenFragment) (left rest : R) : Type 0 where
    pub progress : new.progress ≡ old.progress
    pub unread : g.remaining rest ≡ g.remaining left

  -- The file has no data record more.
  abbrev pub ReadsEnd : OpenFragment → OpenFragment → R → R → Type 0
  ReadsEnd old new left rest = IsNextAnswer old.header old.progress new.progress (g.remaining left)
      (g.remaining rest) (Ok None)

  -- The samples of a place are flat, or of a part of the data record that is the last one then.
  abbrev pub Fetches : FilledParts → OpenFragment → OpenFragment → R → R → Origin →
      Option DataRecord → Option DataRecord → List ℕ → Type 0
  Fetches parts old new left rest Flat last last' samples = ReadsNone old new left rest
      × (last' ≡ last) × (samples ≡ parts.flat.items)
  Fetches parts old new left rest (First start) last last' samples = (r : DataRecord)
      × StepsOn old.header old.progress new.progress (g.remaining left) (g.remaining rest) start r
      × (last' ≡ Some r) × (samples ≡ part_by parts 0 r.samples)
  Fetches parts old new left rest (Later nth) last last' samples = (r : DataRecord)
      × ReadsNone old new left rest × (last ≡ Some r) × (last' ≡ Some r)
      × (samples ≡ part_by parts nth r.samples)

  module _ (from : FilledSource) (old : OpenFragment) (left : R) (to : FilledSource)
      (new : OpenFragment) (rest : R) where
    -- The data record of the next place was given.
    pub record GivesPlace (r : DataRecord) : Type 0 where
      pub place : Place
      pub takes : TakesPlace from.places to.places place
      pub fetched : Fetches from.places.parts.now old new left rest place.origin from.last to.last
          r.samples
      pub start : r.start ≡ place.start
      pub notes : r.annotations ≡ place.notes.items
      pub size : length r.samples ≡ from.bytes
      pub valid : IsValidRecord r

    -- No place was to come, and the file has no data record more.
    pub record GivesNoPlace : Type 0 where
      pub none_left : from.places.left ≡ 0
      pub none_later : from.places.later.now ≡ []
      pub end : ReadsEnd old new left rest

    abbrev pub AnswersFilled : Result (Option DataRecord) WriteFault → Type 0
    AnswersFilled (Ok (Some r)) = GivesPlace r
    AnswersFilled (Ok None) = GivesNoPlace
    AnswersFilled (Err fault) = Unit {0}

    pub record FillsNext (answer : Result (Option DataRecord) WriteFault) : Type 0 where
      pub header : new.header ≡ old.header
      pub bytes : to.bytes ≡ from.bytes
      pub answers : AnswersFilled answer
