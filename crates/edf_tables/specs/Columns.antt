-- The columns of the two tables have names, both as the tables store them and as queries show them.
use Rattle.std.specs.Prelude.{ℕ, ℤ, Bool, List}
use Rattle.std.specs.declared.cmp.Ordering.{Ordering}
use Rattle.std.specs.Ordering.{is_eq}
use Rattle.sqlite_value.specs.declared.value.Value.{Value}
use Rattle.sqlite_value.specs.declared.value.Value.TheVariants.{Int}
use Rattle.sqlite_value.specs.Order.{Row, column, value_cmp}

-- the first tree has the rows of the table `recording`, the third those of `record`
abbrev pub stored_recordings : (ℕ → List Row) → List Row
stored_recordings trees = trees 0

abbrev pub stored_records : (ℕ → List Row) → List Row
stored_records trees = trees 2

-- a stored recording has an id, which is the rowid, and an identity
abbrev pub stored_id : Row → Value
stored_id row = column row 0

abbrev pub stored_identity : Row → Value
stored_identity row = column row 2

-- a stored record has, after its rowid, the id of its recording, a start, samples and a block
abbrev pub stored_recording : Row → Value
stored_recording row = column row 1

abbrev pub stored_start : Row → Value
stored_start row = column row 2

abbrev pub stored_samples : Row → Value
stored_samples row = column row 3

abbrev pub stored_block : Row → Value
stored_block row = column row 4

-- a query shows a recording's id and identity
abbrev pub the_id : Row → Value
the_id row = column row 0

abbrev pub the_identity : Row → Value
the_identity row = column row 1

-- a query shows a record's start, samples and block
abbrev pub the_start : Row → Value
the_start row = column row 0

abbrev pub the_samples : Row → Value
the_samples row = column row 1

abbrev pub the_block : Row → Value
the_block row = column row 2

-- rows are compared by one column
abbrev pub by_column : ℕ → Row → Row → Ordering
by_column at a b = value_cmp (column a at) (column b at)

-- stored recordings are ordered by identity, shown ones by id, and stored records by start
abbrev pub identity_order : Row → Row → Ordering
identity_order a b = value_cmp (stored_identity a) (stored_identity b)

abbrev pub id_order : Row → Row → Ordering
id_order a b = value_cmp (the_id a) (the_id b)

abbrev pub start_order : Row → Row → Ordering
start_order a b = value_cmp (stored_start a) (stored_start b)

-- the stored record is of this recording
abbrev pub is_of : ℤ → Row → Bool
is_of id row = is_eq (value_cmp (stored_recording row) (Int id))
