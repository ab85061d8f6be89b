-- Data records that are valid: one in memory, one of a recording, and all those of a fragment.
use Rattle.std.specs.Prelude.{◌≡◌, ℕ, ◌+◌, ◌*◌, ◌≤◌, ◌<◌, List, [], ◌∷◌, length}
use Rattle.std.specs.List.{AllByRecursion}
use Rattle.edf_time.specs.Civil.{window}
use Rattle.edf_field.specs.Number.{duration_of}
use Rattle.edf_header.specs.Key.{Key, MayStart}
use Rattle.edf_header.specs.Signal.{samples_in_all}
use Rattle.edf_tal.specs.Tal.{IsValidAnnotation}
use Rattle.edf_tal.specs.Block.{IsWithinLimits}
use Rattle.edf_fragment.specs.Fragment.{DataRecord, IsRecordWithinLimits}

-- a data record in memory: within the limits, with a start in the window, and valid annotations
pub record IsValidRecord (r : DataRecord) : Type 0 where
  pub size : IsRecordWithinLimits r
  pub start : r.start < window
  pub notes : AllByRecursion IsValidAnnotation r.annotations

-- the key's number of samples, a start in the window, and valid annotations within the limits
pub record IsSoundRecord (k : Key) (r : DataRecord) : Type 0 where
  pub samples_len : length r.samples ≡ 2 * samples_in_all k.signals
  pub start : r.start < window
  pub limits : IsWithinLimits r.annotations
  pub notes : AllByRecursion IsValidAnnotation r.annotations

-- sound records, the first from `low` on, each other at least a duration after the one before
abbrev pub AreSoundFrom : Key → ℕ → List DataRecord → Type 0
AreSoundFrom k low [] = Unit {0}
AreSoundFrom k low (r ∷ rs) = IsSoundRecord k r × (low ≤ r.start)
    × AreSoundFrom k (r.start + duration_of k.duration) rs

-- the first record, if there is one, starts when a recording of the key may start
abbrev pub FirstMayStart : Key → List DataRecord → Type 0
FirstMayStart k [] = Unit {0}
FirstMayStart k (r ∷ rs) = MayStart k r.start
