-- A recording's rows are checked one after another.
use Rattle.std.specs.Prelude.{◌≡◌, ◌≢◌, ℕ, ◌+◌, ◌≤◌, ◌<◌, ◌⊎◌, pos, List, [], map, length, Option}
use Rattle.std.specs.Prelude.{Some, None}
use Rattle.sqlite.specs.declared.types.Value.TheVariants.{Int}
use Rattle.sqlite.specs.declared.error.ErrorCode.TheVariants.{OutOfMemory, DatabaseCorrupt}
use Rattle.sqlite.specs.declared.error.Error.{Error}
use Rattle.sqlite.specs.declared.error.Error.TheVariants.{SqliteFailure}
use Rattle.sqlite.specs.Order.{Row}
use Rattle.edf_tables.specs.Columns.{the_start}
use Rattle.edf_field.specs.Number.{duration_of}
use Rattle.edf_header.specs.Key.{Key, MayStart}
use Rattle.edf_fragment.specs.Fragment.{DataRecord}
use Rattle.edf_fragment.specs.Sound.{AreSoundFrom, FirstMayStart}
use Rattle.edf_tables.specs.Cells.{first_three}
use Rattle.edf_rows.specs.Cells.{record_cells}
use Rattle.edf_rows.specs.Foreign.{IsBadRow, AreBadRecords}
use Rattle.edf_rows.specs.Rows.{IsRowOf}

-- the row is a data record's of the key, and this is its start
pub record IsStartOf (k : Key) (row : Row) (start : ℕ) : Type 0 where
  pub data_record : DataRecord
  pub start_is : start ≡ data_record.start
  pub row_of : IsRowOf k data_record (first_three row)

-- the start is a duration or more after the last, or is a first one that the recording may have
abbrev pub MayComeNext : Key → Option ℕ → ℕ → Type 0
MayComeNext k None start = MayStart k start
MayComeNext k (Some last) start = last + duration_of k.duration ≤ start

-- the row is a data record's that may come after the last, or first
pub record IsNextRow (k : Key) (last : Option ℕ) (row : Row) (start : ℕ) : Type 0 where
  pub is_start : IsStartOf k row start
  pub follows : MayComeNext k last start

-- the row starts less than a duration after the last
pub record IsNear (k : Key) (last : Option ℕ) (row : Row) : Type 0 where
  pub first : ℕ
  pub start : ℕ
  pub last_is : last ≡ Some first
  pub start_is : the_start row ≡ Int (pos start)
  pub order : first ≤ start
  pub near : start < first + duration_of k.duration

-- the row is the first, and starts where the recording may not
pub record IsLateFirst (k : Key) (last : Option ℕ) (row : Row) : Type 0 where
  pub start : ℕ
  pub last_is : last ≡ None
  pub start_is : the_start row ≡ Int (pos start)
  pub late : ¬ MayStart k start

-- the row starts before the last
pub record IsOutOfOrder (last : Option ℕ) (row : Row) : Type 0 where
  pub first : ℕ
  pub start : ℕ
  pub last_is : last ≡ Some first
  pub start_is : the_start row ≡ Int (pos start)
  pub before : start < first

-- the check fails where memory ran out, or the row starts before the last
pub data IsRowRefused (last : Option ℕ) (row : Row) (e : Error) : Type 0 where
  no_memory : e ≡ SqliteFailure OutOfMemory → IsRowRefused last row e
  unordered : e ≡ SqliteFailure DatabaseCorrupt → IsOutOfOrder last row → IsRowRefused last row e

-- the row may not come after the last, or first
abbrev pub IsWrong : Key → Option ℕ → Row → Type 0
IsWrong k last row = IsBadRow k row ⊎ (IsNear k last row ⊎ IsLateFirst k last row)

-- the rows are one to `cap` sound records, a duration apart, and the recording may begin so
pub record HasSound (cap : ℕ) (k : Key) (rows : List Row) (count : ℕ) : Type 0 where
  pub records : List DataRecord
  pub shown : rows ≡ map record_cells records
  pub sound : AreSoundFrom k 0 records
  pub begins : FirstMayStart k records
  pub some : rows ≢ []
  pub within_cap : length records ≤ cap
  pub count_is : count ≡ length records

-- `Some count`: the rows are `count` sound records of the recording; `None`: they are bad
abbrev pub ChecksRecords : ℕ → Key → List Row → Option ℕ → Type 0
ChecksRecords cap k rows None = AreBadRecords cap k rows
ChecksRecords cap k rows (Some count) = HasSound cap k rows count
