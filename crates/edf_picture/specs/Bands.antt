-- What a band shows of a signal: in each column the least and the greatest of the samples whose
-- time meets the column's. Time is in nanoseconds, and the axis is divided into so many equal
-- columns.
use Rattle.std.specs.Prelude.{◌≡◌, ◌≤◌, ◌<◌, ◌+◌, ◌*◌, ◌%◌, ℕ, List, [], ◌∷◌, Contains}
use Rattle.std.specs.Prelude.{Option, Some, None, All}
use Rattle.edf_picture.specs.declared.bands.Range.{Range}
use Rattle.edf_picture.specs.declared.extent.TheConstants.{COLUMNS}

-- the level of a sample: its two bytes, the lower first, are a number in two's complement; 32,768
-- is added, so that levels are ordered as the values are
abbrev pub level : ℕ → ℕ → ℕ
level low high = (low + 256 * high + 32768) % 65536

abbrev pub levels : List ℕ → List ℕ
levels [] = []
levels (low ∷ []) = []
levels (low ∷ high ∷ more) = level low high ∷ levels more

-- the least and the greatest of some values; none where there is no value
abbrev pub IsRange : List ℕ → Option Range → Type 0
IsRange values None = values ≡ []
IsRange values (Some range) = Contains values range.least × Contains values range.greatest
    × All (λ value. (range.least ≤ value) × (value ≤ range.greatest)) values

-- On an axis of this length the sample of this number, of so many in a data record that starts so
-- long after the axis and lasts so long, is during the column: it begins before the column ends,
-- and ends after it begins.
pub record Meets (length offset duration count nth column : ℕ) : Type 0 where
  pub begins : (offset * count + nth * duration) * COLUMNS < length * (column + 1) * count
  pub ends : length * column * count < (offset * count + (nth + 1) * duration) * COLUMNS
