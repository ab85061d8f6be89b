-- The measure of data records, which is needed before the first byte of their file: when the first
-- of them starts, how many there are, and how long their longest block is.
use Rattle.std.specs.Prelude.{◌≡◌, ℕ, ◌*◌, ◌≤◌, List, [], ◌∷◌, ◌++◌, length, Option, Some, None}
use Rattle.std.specs.List.{flat_map}
use Rattle.edf_fragment.specs.Fragment.{DataRecord}
use Rattle.edf_canonical.specs.File.{second_of, block_of, record_text, BlocksFit}
use Rattle.edf_canonical.specs.declared.measure.Measure.{Measure}

-- when the first of the data records starts, how many there are, and the fewest samples, two bytes
-- each, that hold the longest block, with onsets counted from the second in which the first starts
pub record IsMeasured (records : List DataRecord) (measure : Measure) : Type 0 where
  pub first : DataRecord
  pub others : List DataRecord
  pub parts : records ≡ first ∷ others
  pub start : measure.first ≡ first.start
  pub count : measure.records ≡ length records
  pub holds : BlocksFit (second_of measure.first) measure.block_samples records
  pub least : (fewer : ℕ) → BlocksFit (second_of measure.first) fewer records →
      measure.block_samples ≤ fewer

-- the first of the data records, where there is one, starts at this instant
abbrev pub StartsAt : ℕ → List DataRecord → Type 0
StartsAt instant [] = Unit {0}
StartsAt instant (r ∷ rs) = instant ≡ r.start

-- these may be the first of the data records that were measured: the first starts as theirs, and
-- there are no more, and no longer blocks
pub record MayBePrefix (records : List DataRecord) (m : Measure) : Type 0 where
  pub starts : StartsAt m.first records
  pub within : length records ≤ m.records
  pub holds : BlocksFit (second_of m.first) m.block_samples records

-- the data records as they are in a file of this measure, and with its header
abbrev pub records_text : Measure → List DataRecord → List ℕ
records_text m records = flat_map (record_text (second_of m.first) (2 * m.block_samples)) records

abbrev pub planned_text : List ℕ → Measure → List DataRecord → List ℕ
planned_text header m records = header ++ records_text m records

-- ---- one after another

-- the measure is none where there is no data record yet
abbrev pub IsMeasuredSoFar : List DataRecord → Option Measure → Type 0
IsMeasuredSoFar records None = records ≡ []
IsMeasuredSoFar records (Some measure) = IsMeasured records measure

-- so many samples hold the block of a data record
abbrev pub HoldsBlock : Measure → DataRecord → Type 0
HoldsBlock m r = length (block_of (second_of m.first) r) ≤ 2 * m.block_samples

-- data records that are measured so may be the first of others: they start when these do, and there
-- are no more, and no longer blocks
pub record IsWithinMeasure (m whole : Measure) : Type 0 where
  pub first : m.first ≡ whole.first
  pub records : m.records ≤ whole.records
  pub samples : m.block_samples ≤ whole.block_samples
