-- What one row more makes of the sorted rows, in the words of the statements.
use Rattle.std.proofs.Common.{◌≡◌, ℕ, ℤ, true, false, List, filter, ap, ◌∙◌, is_eq}
use Rattle.std.specs.List.{AllByRecursion}
use Rattle.std.specs.Ordering.{int_cmp}
use Rattle.std.proofs.lemmas.Cmp.{tied_itself}
use Rattle.sqlite.specs.declared.types.Value.TheVariants.{Int}
use Rattle.sqlite.specs.Order.{Row}
use Rattle.sqlite.specs.State.{State, KeepsCommit}
use Rattle.sqlite_value.proofs.OrderLemmas.{value_cmp_total, value_cmp-Int}
use Rattle.sqlite_trees.proofs.ListLemmas.{all-permutation}
use Rattle.sqlite_keyed.specs.Lists.{insert_sorted}
use Rattle.sqlite_keyed.proofs.ListLemmas.{all_kept}
use Rattle.sqlite_keyed.proofs.SortLemmas.{IsPermutation-sort_by}
use Rattle.edf_tables.specs.Row.{cells, new_row, IsInside, HasRecord, HasRecording}
use Rattle.edf_tables.specs.Records.{records_of}
use Rattle.edf_tables.specs.Columns.{by_column, is_of}
use Rattle.edf_tables.proofs.Answers.{column_total}
use Rattle.edf_tables.proofs.Keeping.{shows_keeps}
use Rattle.edf_tables.proofs.Steps.{add_is_step, add_elsewhere}

-- none of the rows has what the new one has in the column
abbrev pub AreOthers : ℕ → Row → List Row → Type 0
AreOthers at new = AllByRecursion (λ r. is_eq (by_column at r new) ≡ false)

of_itself : (n start : ℤ) (samples block : List ℕ) (rows : List Row) →
    is_of n (new_row rows (cells n start samples block)) ≡ true
of_itself n start samples block rows = ap is_eq (tied_itself value_cmp_total (Int n))

of_another : (m n start : ℤ) (samples block : List ℕ) (rows : List Row) →
    is_eq (int_cmp n m) ≡ false → is_of m (new_row rows (cells n start samples block)) ≡ false
of_another m n start samples block rows h = ap is_eq (value_cmp-Int n m) ∙ h

-- the recording has the record in its place
pub own_records : (old new : State) (n start : ℤ) (samples block : List ℕ) →
    HasRecord old new (cells n start samples block) →
    AreOthers 2 (new_row (old.now.trees 2) (cells n start samples block))
    (records_of n (old.now.trees 2))
    → records_of n (new.now.trees 2) ≡ insert_sorted (by_column 2)
    (new_row (old.now.trees 2) (cells n start samples block)) (records_of n (old.now.trees 2))
own_records old new n start samples block h others =
    let rows = old.now.trees 2 in
    let row = new_row rows (cells n start samples block) in
    let kept = all-permutation (λ r. is_eq (by_column 2 r row) ≡ false) _ _
    (IsPermutation-sort_by (by_column 2) (column_total 2) (filter (is_of n) rows)) others in
    ap (records_of n) h.records ∙ add_is_step n row rows (of_itself n start samples block rows)
    h.fresh (all_kept (λ r. is_eq (by_column 2 r row) ≡ false) (is_of n) rows kept)

-- and every other recording has what it had
pub other_records : (old new : State) (m n start : ℤ) (samples block : List ℕ) →
    HasRecord old new (cells n start samples block) → is_eq (int_cmp n m) ≡ false →
    records_of m (new.now.trees 2) ≡ records_of m (old.now.trees 2)
other_records old new m n start samples block h apart =
    let rows = old.now.trees 2 in
    ap (records_of m) h.records ∙ add_elsewhere m (new_row rows (cells n start samples block)) rows
    (of_another m n start samples block rows apart) h.fresh

pub record_inside : (old new : State) (row : Row) → HasRecord old new row → IsInside new
record_inside old new row h = record { schema = h.schema; mode = h.shown.mode }

pub record_keeps : (old new : State) (row : Row) → HasRecord old new row → KeepsCommit old new
record_keeps old new row h = shows_keeps old new new.now true h.shown

pub recording_inside : (old new : State) (row : Row) → HasRecording old new row → IsInside new
recording_inside old new row h = record { schema = h.schema; mode = h.shown.mode }

pub recording_keeps : (old new : State) (row : Row) → HasRecording old new row → KeepsCommit old new
recording_keeps old new row h = shows_keeps old new new.now true h.shown
