-- Which records a query by starts gives.
use Rattle.std.proofs.Common.{◌≡◌, ℕ, zero, suc, ◌+◌, ◌<◌, ◌≤◌, ℤ, pos, ◌-ℤ◌, ◌+ℤ◌, ◌<ℤ◌, true}
use Rattle.std.proofs.Common.{false, ◌&&◌, List, [], ◌∷◌, map, length, filter, take, drop, nat_lt}
use Rattle.std.proofs.Common.{refl, sym, ap, ap₂, ◌∙◌, arith, inl, inr, is_gt, is_lt, Option, Some}
use Rattle.std.proofs.Common.{None, slice_get}
use Rattle.std.specs.Ordering.{int_cmp}
use Rattle.std.proofs.lemmas.Int.{ints}
use Rattle.std.proofs.lemmas.Bool.{cases_Bool, ltb-true, ltb-false}
use Rattle.sqlite_value.specs.declared.value.Value.TheVariants.{Int}
use Rattle.sqlite_value.specs.Order.{Row, column, value_cmp}
use Rattle.sqlite_value.proofs.OrderLemmas.{value_cmp-Int}
use Rattle.sqlite_trees.specs.Tree.{Trees}
use Rattle.edf_header.specs.Key.{Key}
use Rattle.edf_fragment.specs.Fragment.{DataRecord}
use Rattle.edf_holdings.specs.Clash.{intervals_overlap, overlapping}
use Rattle.edf_holdings.specs.Rising.{StartsAreSpaced}
use Rattle.edf_holdings.specs.Holdings.{Holdings, IsSound}
use Rattle.edf_tables.specs.Records.{records_of, shown_record, starts_between, starts_after}
use Rattle.edf_tables.specs.Records.{HaveRisingStarts}
use Rattle.edf_rows.specs.Cells.{record_cells}
use Rattle.edf_rows.specs.Rows.{HasRecordingRow, Represent}
use Rattle.edf_store.proofs.StoredRows.{from_show, show_filter, show_take, show_length, rows_rise}
use Rattle.edf_store.proofs.StoredRows.{cell_less, cell_more, cell_same, pos_less, Three, below}
use Rattle.edf_store.proofs.StoredRows.{level, above, three}
use Rattle.edf_store.proofs.Standing.{shown_of}

after_test : (start d s : ℕ) → is_gt (value_cmp (Int (pos s)) (Int (pos start -ℤ pos d))) ≡ nat_lt
    start (s + d)
after_test start d s = elim (cases_Bool (nat_lt start (s + d))) [
  | inl t ↦ let l = ltb-true start (s + d) t in
      ap is_gt (cell_more (pos s) (pos start -ℤ pos d) (omega (arith, ints, l))) ∙ sym t
  | inr f ↦ let l = ltb-false start (s + d) f in go (three (s + d) start) l ∙ sym f
]
  where
    go : Three (s + d) start → s + d ≤ start →
        is_gt (value_cmp (Int (pos s)) (Int (pos start -ℤ pos d))) ≡ false
    go (below l) m = ap is_gt (cell_less (pos s) (pos start -ℤ pos d) (omega (arith, ints, l)))
    go (level e) m = ap is_gt (cell_same (pos s) (pos start -ℤ pos d) (omega (arith, ints, e)))
    go (above l) m = absurd (omega (arith, l, m))

before_test : (start d s : ℕ) → is_lt (value_cmp (Int (pos s)) (Int (pos start +ℤ pos d))) ≡ nat_lt
    s (start + d)
before_test start d s = elim (cases_Bool (nat_lt s (start + d))) [
  | inl t ↦ let l = ltb-true s (start + d) t in
      ap is_lt (cell_less (pos s) (pos start +ℤ pos d) (omega (arith, ints, l))) ∙ sym t
  | inr f ↦ let l = ltb-false s (start + d) f in go (three (start + d) s) l ∙ sym f
]
  where
    go : Three (start + d) s → start + d ≤ s →
        is_lt (value_cmp (Int (pos s)) (Int (pos start +ℤ pos d))) ≡ false
    go (below l) m = ap is_lt (cell_more (pos s) (pos start +ℤ pos d) (omega (arith, ints, l)))
    go (level e) m = ap is_lt (cell_same (pos s) (pos start +ℤ pos d) (omega (arith, ints, e)))
    go (above l) m = absurd (omega (arith, l, m))

near_test : (start d : ℕ) (row : Row) (x : DataRecord) → column row 2 ≡ Int (pos x.start) →
    starts_between (pos start -ℤ pos d) (pos start +ℤ pos d) row ≡ intervals_overlap d start x
near_test start d row x e =
    ap (λ v. is_gt (value_cmp v (Int (pos start -ℤ pos d))) && is_lt
    (value_cmp v (Int (pos start +ℤ pos d)))) e
    ∙ ap₂ (λ a b. a && b) (after_test start d x.start) (before_test start d x.start)

-- the rows of the query for the records near a start show these
pub near_shown : (trees : Trees) (h : Holdings) (id : ℤ) (k : Key) (start d : ℕ) →
    Represent trees h → HasRecordingRow trees id k
    → map shown_record (filter (starts_between (pos start -ℤ pos d) (pos start +ℤ pos d))
    (records_of id (trees 2))) ≡ map record_cells (overlapping d start (h k))
near_shown trees h id k start d stand there =
    from_show _ _ (show_filter _ (intervals_overlap d start) (near_test start d)
    (records_of id (trees 2)) (h k) (shown_of trees h stand id k there))

later_test : (after : ℤ) (row : Row) (x : DataRecord) → column row 2 ≡ Int (pos x.start) →
    starts_after after row ≡ is_gt (int_cmp (pos x.start) after)
later_test after row x e = ap (λ v. is_gt (value_cmp v (Int after))) e
    ∙ ap is_gt (value_cmp-Int (pos x.start) after)

pub later_shown : (trees : Trees) (h : Holdings) (id : ℤ) (k : Key) (after : ℤ) (n : ℕ) →
    Represent trees h → HasRecordingRow trees id k
    → map shown_record (take n (filter (starts_after after) (records_of id (trees 2)))) ≡ map
    record_cells (take n (filter (λ (r : DataRecord). is_gt (int_cmp (pos r.start) after)) (h k)))
later_shown trees h id k after n stand there =
    from_show _ _ (show_take n _ _ (show_filter _
    (λ (r : DataRecord). is_gt (int_cmp (pos r.start) after)) (later_test after)
    (records_of id (trees 2)) (h k) (shown_of trees h stand id k there)))

pub count_shown : (trees : Trees) (h : Holdings) (id : ℤ) (k : Key) → Represent trees h →
    HasRecordingRow trees id k → length (records_of id (trees 2)) ≡ length (h k)
count_shown trees h id k stand there = show_length _ _ (shown_of trees h stand id k there)

pub rows_rising : (trees : Trees) (cap : ℕ) (h : Holdings) (id : ℤ) (k : Key) → Represent trees h →
    IsSound cap h → HasRecordingRow trees id k → HaveRisingStarts (records_of id (trees 2))
rows_rising trees cap h id k stand sound there =
    rows_rise 0 _ _ (shown_of trees h stand id k there) (sound.rising k)

-- ---- one step of a walk
pub low_first : (low : ℕ) (xs : List DataRecord) → StartsAreSpaced 1 low xs →
    (n : ℕ) (r : DataRecord) → slice_get xs n ≡ Some r → low ≤ r.start
low_first low [] a n r e = absurd (let x : ◌≡◌ {A = Option DataRecord} None (Some r) = e in cc)
low_first low (x ∷ xs) a zero r e = let same : x ≡ r = cc in
    omega (arith, a.0, ap (λ (y : DataRecord). y.start) same)
low_first low (x ∷ xs) a (suc n) r e = omega (arith, a.0, low_first (x.start + 1) xs a.1 n r e)

later_all : (after low : ℕ) (xs : List DataRecord) → StartsAreSpaced 1 low xs → after < low →
    filter (λ (r : DataRecord). is_gt (int_cmp (pos r.start) (pos after))) xs ≡ xs
later_all after low [] a l = refl
later_all after low (x ∷ xs) a l =
    let yes : is_gt (int_cmp (pos x.start) (pos after)) ≡ true =
    sym (ap is_gt (value_cmp-Int (pos x.start) (pos after)))
    ∙ ap is_gt (cell_more (pos x.start) (pos after)
    (pos_less after x.start (omega (arith, a.0, l)))) in
    rw yes (ap (λ (l : List DataRecord). x ∷ l)
    (later_all after (x.start + 1) xs a.1 (omega (arith, a.0, l))))

-- after the record at a place of a rising list come those that follow it
pub later_place : (low : ℕ) (xs : List DataRecord) → StartsAreSpaced 1 low xs →
    (n : ℕ) (r : DataRecord) → slice_get xs n ≡ Some r → filter (λ (y : DataRecord).
    is_gt (int_cmp (pos y.start) (pos r.start))) xs ≡ drop (suc n) xs
later_place low [] a n r e = absurd (let x : ◌≡◌ {A = Option DataRecord} None (Some r) = e in cc)
later_place low (x ∷ xs) a zero r e =
    let same : x ≡ r = cc in
    let no : is_gt (int_cmp (pos x.start) (pos r.start)) ≡ false =
    sym (ap is_gt (value_cmp-Int (pos x.start) (pos r.start)))
    ∙ ap is_gt (cell_same (pos x.start) (pos r.start)
    (ap (λ (y : DataRecord). pos y.start) same)) in
    rw no (later_all r.start (x.start + 1) xs a.1
    (omega (arith, ap (λ (y : DataRecord). y.start) same)))
later_place low (x ∷ xs) a (suc n) r e =
    let up = low_first (x.start + 1) xs a.1 n r e in
    let no : is_gt (int_cmp (pos x.start) (pos r.start)) ≡ false =
    sym (ap is_gt (value_cmp-Int (pos x.start) (pos r.start)))
    ∙ ap is_gt (cell_less (pos x.start) (pos r.start)
    (pos_less x.start r.start (omega (arith, up)))) in
    rw no (later_place (x.start + 1) xs a.1 n r e)

pub later_start : (low : ℕ) (xs : List DataRecord) → StartsAreSpaced 1 low xs → (after : ℤ) →
    after <ℤ pos low → filter (λ (r : DataRecord). is_gt (int_cmp (pos r.start) after)) xs ≡ xs
later_start low [] a after l = refl
later_start low (x ∷ xs) a after l =
    let up = a.0 in
    let yes : is_gt (int_cmp (pos x.start) after) ≡ true =
    sym (ap is_gt (value_cmp-Int (pos x.start) after))
    ∙ ap is_gt (cell_more (pos x.start) after (omega (arith, ints, l, up))) in
    rw yes (ap (λ (l : List DataRecord). x ∷ l)
    (later_start (x.start + 1) xs a.1 after (omega (arith, ints, l, up))))
