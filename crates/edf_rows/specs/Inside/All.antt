-- The check of all rows counts records, and returns true or false.
use Rattle.std.specs.Prelude.{◌≡◌, ℕ, ℤ, Bool, true, false, List, filter, length, Option, Some}
use Rattle.std.specs.Prelude.{None}
use Rattle.std.specs.declared.cmp.Ordering.TheVariants.{Less}
use Rattle.std.specs.Ordering.{int_cmp, is_eq}
use Rattle.std.specs.List.{AllByRecursion, list_any}
use Rattle.sqlite.specs.declared.types.Value.TheVariants.{Int}
use Rattle.sqlite.specs.Order.{Row}
use Rattle.sqlite.specs.Tree.{Trees}
use Rattle.sqlite_value.specs.Order.{value_cmp}
use Rattle.sqlite_trees.specs.Tree.{IsAscending}
use Rattle.edf_tables.specs.Columns.{the_id, stored_records, stored_recording, id_order}
use Rattle.edf_holdings.specs.Holdings.{Holdings}
use Rattle.edf_rows.specs.Rows.{RepresentCommitted}
use Rattle.edf_rows.specs.Foreign.{IsForeign}
use Rattle.edf_rows.specs.Inside.Shape.{HasRecords}

-- this is the row's id, and it comes after the last one
abbrev pub IsAfter : Option ℤ → Row → ℤ → Type 0
IsAfter None row id = the_id row ≡ Int id
IsAfter (Some last) row id = (the_id row ≡ Int id) × (int_cmp last id ≡ Less)

abbrev pub IsNotAfter : Option ℤ → Row → Type 0
IsNotAfter last row = (id : ℤ) → ¬ IsAfter last row id

-- the record is of this recording
abbrev pub owns : Row → Row → Bool
owns recording row = is_eq (value_cmp (stored_recording row) (the_id recording))

-- counts the records that belong to one of the recordings
abbrev pub owned_by : Trees → List Row → ℕ
owned_by trees rows = length (filter (λ r. list_any (λ g. owns g r) rows) (stored_records trees))

-- each recording has sound records, no id occurs twice, and `sum` records are theirs
pub record AreCounted (cap : ℕ) (trees : Trees) (rows : List Row) (sum : ℕ) : Type 0 where
  pub has : AllByRecursion (HasRecords cap trees) rows
  pub apart : IsAscending (λ a b. id_order a b ≡ Less) rows
  pub sums : sum ≡ owned_by trees rows

-- `Some sum`: `sum` records belong to the recordings; `None`: the rows are foreign
abbrev pub Counts : ℕ → Trees → List Row → Option ℕ → Type 0
Counts cap trees rows None = IsForeign cap trees
Counts cap trees rows (Some sum) = AreCounted cap trees rows sum

-- `true`: the rows represent holdings as committed; `false`: they are foreign
abbrev pub Answers : ℕ → Trees → Bool → Type 0
Answers cap trees true = (h : Holdings) × RepresentCommitted cap trees h
Answers cap trees false = IsForeign cap trees
