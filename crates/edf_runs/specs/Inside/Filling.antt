-- What is known of a recording that is filled, before its samples are read again.
use Rattle.std.specs.Prelude.{◌≡◌, ℕ, ◌+◌, ◌-◌, ◌≤◌, List, [], ◌∷◌, ◌++◌, map, length}
use Rattle.std.specs.Prelude.{Option, Some, None, min, max}
use Rattle.std.specs.List.{AllZip}
use Rattle.edf_field.specs.Number.{duration_of}
use Rattle.edf_header.specs.Flat.{AreFlat}
use Rattle.edf_header.specs.Key.{Key}
use Rattle.edf_header.specs.Signal.{samples}
use Rattle.edf_header.specs.declared.limits.TheConstants.{MOST_RECORDS}
use Rattle.edf_tal.specs.Tal.{Annotation}
use Rattle.edf_fragment.specs.Fragment.{DataRecord}
use Rattle.edf_canonical.specs.Measure.{IsMeasured}
use Rattle.edf_canonical.specs.declared.measure.Measure.{Measure}
use Rattle.edf_runs.specs.FillAnswers.{move_of, IsAllowed, starts_of}
use Rattle.edf_runs.specs.Filled.{IsFilledKey}
use Rattle.edf_runs.specs.Inside.Dividing.{IsBestOf}
use Rattle.edf_runs.specs.Inside.Moving.{MovesNote, stretch_notes}
use Rattle.edf_runs.specs.Inside.Placing.{filled_records}
use Rattle.edf_runs.specs.Inside.Stretching.{Rise}
use Rattle.edf_runs.specs.Inside.ToCome.{IsPlaced, StartAt, samples_to_come, to_come}
use Rattle.edf_runs.specs.Order.{in_order}
use Rattle.edf_runs.specs.Outline.{IsOutline}
use Rattle.edf_runs.specs.declared.filled.FillLimits.{FillLimits}
use Rattle.edf_runs.specs.declared.filled.Filled.{Filled}
use Rattle.edf_runs.specs.declared.filled_places.Places.{Places}
use Rattle.edf_runs.specs.declared.outline.Outline.{Outline}
use Rattle.edf_runs.specs.declared.parted.Parted.{Parted}

-- A data record starts so long after the end of the one before, where there is one.
abbrev pub gap_before : Option ℕ → ℕ → ℕ
gap_before None start = 0
gap_before (Some end) start = start - end

-- So many start later than where the one before ends.
abbrev pub gaps_from : ℕ → Option ℕ → List ℕ → ℕ
gaps_from d end [] = 0
gaps_from d end (s ∷ ss) =
    min (gap_before end s) 1 + gaps_from d (Some (s + d)) ss

-- None starts more than so much later.
abbrev pub GapsWithin : ℕ → ℕ → Option ℕ → List ℕ → Type 0
GapsWithin longest d end [] = Unit {0}
GapsWithin longest d end (s ∷ ss) =
    (gap_before end s ≤ longest) × GapsWithin longest d (Some (s + d)) ss

-- The furthest move of them, where an earlier one moved so far.
abbrev pub furthest_from : ℕ → ℕ → ℕ → List ℕ → ℕ
furthest_from u first so_far [] = so_far
furthest_from u first so_far (s ∷ ss) = furthest_from u first (max so_far (move_of u first s)) ss

-- All places have this measure, where there are so many.
abbrev pub MeasuresPlaces : Places → ℕ → Measure → Type 0
MeasuresPlaces places count measure = IsPlaced places → count ≤ MOST_RECORDS →
    (next : List DataRecord) → StartAt places.later.now next →
    count ≡ length (samples_to_come places [] next) →
    IsMeasured (to_come places [] next) measure

-- Data records of a recording are divided where there are gaps.
pub record IsDivided (k : Key) (gaps parts unit : ℕ) : Type 0 where
  pub whole : gaps ≡ 0 → (parts ≡ 1) × (unit ≡ duration_of k.duration)
  pub best : (¬ (gaps ≡ 0)) → IsBestOf (duration_of k.duration) (map samples k.signals) parts unit

-- The key of its filled file is its own where there are none.
pub record IsNamed (k : Key) (gaps parts unit : ℕ) (key : Key) : Type 0 where
  pub same : gaps ≡ 0 → key ≡ k
  pub filled : (¬ (gaps ≡ 0)) → IsFilledKey k parts unit key

-- The recording of an outline is filled so.
pub record IsFilling (outline : Outline) (filled : Filled) : Type 0 where
  pub gaps : ℕ
  pub counted : gaps ≡ gaps_from (duration_of outline.identity.duration) None
      outline.spans.starts.items
  pub divided : IsDivided outline.identity gaps filled.parts.division.parts
      filled.parts.division.unit
  pub named : IsNamed outline.identity gaps filled.parts.division.parts
      filled.parts.division.unit filled.identity
  pub first : (others : List ℕ) × (outline.spans.starts.items ≡ filled.parts.first ∷ others)
  pub sizes : filled.parts.sizes.items ≡ map samples outline.identity.signals
  pub flat : AreFlat filled.identity.signals filled.parts.flat.items
  pub measured : (k : Key) (r : DataRecord) (rs : List DataRecord) → IsOutline k (r ∷ rs) outline →
      IsMeasured (filled_records k filled.parts.division.parts filled.parts.division.unit r.start
      filled.parts.flat.items filled.notes.items (r ∷ rs)) filled.measure
  pub parted : Parted
  pub starts : parted.starts.now ≡ outline.spans.starts.items
  pub from_first : parted.first ≡ filled.parts.first
  pub duration : parted.duration ≡ duration_of outline.identity.duration
  pub division : parted.division ≡ filled.parts.division
  pub notes : Rise parted.duration 0 parted.starts.now → (moved : List Annotation)
      × AllZip (MovesNote parted) outline.spans.notes.items moved
      × (filled.notes.items
      ≡ in_order (moved ++ stretch_notes parted 0 parted.starts.now))

-- It keeps these limits, whatever recording its outline is of.
abbrev pub KeepsLimits : FillLimits → Outline → Filled → Type 0
KeepsLimits limits outline filled = (k : Key) (r : DataRecord) (rs : List DataRecord) →
    IsOutline k (r ∷ rs) outline → IsAllowed limits (duration_of k.duration)
    filled.parts.division.unit r.start (starts_of (r ∷ rs))
