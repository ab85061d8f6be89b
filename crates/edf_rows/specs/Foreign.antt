-- Rows are foreign where submissions can't make them.
use Rattle.std.specs.Prelude.{◌≡◌, ℕ, ◌+◌, ◌*◌, ◌≤◌, ◌<◌, ℤ, pos, ◌⊎◌, List, [], ◌∷◌, length}
use Rattle.std.specs.Prelude.{Contains, IsTrue}
use Rattle.sqlite_value.specs.declared.value.Value.TheVariants.{Int, Blob}
use Rattle.sqlite_value.specs.Order.{Row}
use Rattle.sqlite_trees.specs.Tree.{Trees}
use Rattle.edf_time.specs.Civil.{window}
use Rattle.edf_field.specs.Number.{duration_of}
use Rattle.edf_header.specs.Signal.{samples_in_all}
use Rattle.edf_header.specs.Key.{Key, MayStart}
use Rattle.edf_tal.specs.Tal.{Annotation}
use Rattle.edf_tal.specs.Block.{BlockParsesTo}
use Rattle.edf_tal.specs.declared.place.Place.TheVariants.{Any}
use Rattle.edf_tal.specs.Canonical.{tals_text}
use Rattle.edf_rows.specs.Cells.{recordings_in, records_in}
use Rattle.edf_tables.specs.Columns.{the_id, the_identity, the_start, the_samples, the_block}
use Rattle.edf_tables.specs.Columns.{stored_records, is_of}
use Rattle.edf_rows.specs.Rows.{HasRecordingRow, IsRecordingRow, AreTwoOf}

-- the cell is an instant of the window
abbrev pub IsStart : Row → ℕ → Type 0
IsStart row start = (the_start row ≡ Int (pos start)) × (start < window)

-- the cell has as many sample bytes as the key says
abbrev pub AreSamples : Key → Row → Type 0
AreSamples k row = (samples : List ℕ) × (the_samples row ≡ Blob samples)
    × (length samples ≡ 2 * samples_in_all k.signals)

-- the cell is the block that is written for what it parses to, with the start of the row
pub record IsCanonicalBlock (row : Row) : Type 0 where
  pub block : List ℕ
  pub start : ℕ
  pub list : List Annotation
  pub is_block : the_block row ≡ Blob block
  pub read : BlockParsesTo block 0 Any start list
  pub written : block ≡ tals_text 0 start list
  pub starts : the_start row ≡ Int (pos start)

-- the row's start, samples or block are not those of a data record of the key
pub data IsBadRow (k : Key) (row : Row) : Type 0 where
  bad_start : ((start : ℕ) → ¬ IsStart row start) → IsBadRow k row
  bad_samples : ¬ AreSamples k row → IsBadRow k row
  bad_block : ¬ IsCanonicalBlock row → IsBadRow k row

-- two records of a recording start less than its duration apart
pub record AreTooNear (rows : List Row) (duration : ℕ) : Type 0 where
  pub a : Row
  pub b : Row
  pub two : AreTwoOf rows a b
  pub first : ℕ
  pub second : ℕ
  pub a_start : the_start a ≡ Int (pos first)
  pub b_start : the_start b ≡ Int (pos second)
  pub order : first ≤ second
  pub near : second < first + duration

-- the first of the rows, which come by rising starts, starts when the key's recording may not:
-- after 2084 without a date
abbrev pub BeginsTooLate : Key → List Row → Type 0
BeginsTooLate k [] = ⊥
BeginsTooLate k (row ∷ rows) = (start : ℕ) × (the_start row ≡ Int (pos start)) × ¬ MayStart k start

-- of a recording's records one is bad, two are too near, the first is too late, there is none, or
-- there are more than the cap
pub data AreBadRecords (cap : ℕ) (k : Key) (rows : List Row) : Type 0 where
  bad_row : (row : Row) → Contains rows row → IsBadRow k row → AreBadRecords cap k rows
  too_near : AreTooNear rows (duration_of k.duration) → AreBadRecords cap k rows
  too_late : BeginsTooLate k rows → AreBadRecords cap k rows
  too_few : rows ≡ [] → AreBadRecords cap k rows
  too_many : cap < length rows → AreBadRecords cap k rows

-- submissions under the cap can't make the rows: a row is no recording; a recording's records are
-- bad; a record's recording is missing; or, which the tables themselves exclude, an id or an
-- identity occurs twice
pub data IsForeign (cap : ℕ) (trees : Trees) : Type 0 where
  bad_recording : (row : Row) → Contains (recordings_in trees) row → ¬ IsRecordingRow row →
      IsForeign cap trees
  bad_records : (id : ℤ) (k : Key) → HasRecordingRow trees id k →
      AreBadRecords cap k (records_in trees id) → IsForeign cap trees
  without_recording : (row : Row) → Contains (stored_records trees) row →
      ((id : ℤ) (k : Key) → HasRecordingRow trees id k → ¬ IsTrue (is_of id row)) →
      IsForeign cap trees
  twice : (a b : Row) → AreTwoOf (recordings_in trees) a b → (the_id a ≡ the_id b)
      ⊎ (the_identity a ≡ the_identity b) → IsForeign cap trees
