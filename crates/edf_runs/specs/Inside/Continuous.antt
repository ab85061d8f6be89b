-- The header of a file without a gap.
use Rattle.std.specs.Prelude.{◌≡◌, List, ℕ}
use Rattle.edf_header.specs.Canonical.{IsCanonicalHeader}
use Rattle.edf_header.specs.Key.{Key}
use Rattle.edf_canonical.specs.declared.measure.Measure.{Measure}
use Rattle.edf_runs.specs.File.{marked_continuous}

-- It is the canonical one, with the mark EDF+C.
pub record IsContinuousHeader (header : List ℕ) (k : Key) (measure : Measure) : Type 0 where
  pub plain : List ℕ
  pub is_plain : IsCanonicalHeader plain k measure.first measure.records measure.block_samples
  pub marked : header ≡ marked_continuous plain
