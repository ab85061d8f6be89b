-- Rows beside the data records that they show.
use Rattle.std.proofs.Common.{◌≡◌, ◌≢◌, ℕ, zero, suc, ◌+◌, ◌<ℤ◌, take, ap₂, ◌<◌, ◌≤◌, ℤ, pos, ◌⊎◌}
use Rattle.std.proofs.Common.{inl, inr, Bool, true, false, List, [], ◌∷◌, map, length, filter}
use Rattle.std.proofs.Common.{nat_lt, Contains, refl, sym, ap, subst, ◌∙◌, arith, true≢false}
use Rattle.std.proofs.Common.{Ordering, Less, Equal, Greater, is_eq}
use Rattle.std.specs.List.{AllByRecursion}
use Rattle.std.proofs.lemmas.List.Sorted.{IsPermutation-trans, IsPermutation-middle}
use Rattle.std.proofs.lemmas.Bool.{cond-true, and_from, lt-ltb, ltb-true, ltb-false, cases_Bool}
use Rattle.std.proofs.lemmas.Bool.Decides.{nat_tests}
use Rattle.std.specs.Cmp.{int_cmp_is}
use Rattle.std.proofs.lemmas.Int.{ints}
use Rattle.sqlite_value.specs.declared.value.Value.TheVariants.{Int}
use Rattle.sqlite_value.specs.Order.{Row, column, value_cmp}
use Rattle.sqlite_value.proofs.OrderLemmas.{value_cmp-Int}
use Rattle.sqlite_trees.specs.Tree.{put_row, rowid, IsAscending}
use Rattle.sqlite_keyed.specs.Lists.{insert_sorted}
use Rattle.edf_fragment.specs.Fragment.{DataRecord}
use Rattle.edf_holdings.specs.Same.{same_record}
use Rattle.edf_holdings.specs.Rising.{insert, StartsAreSpaced}
use Rattle.edf_holdings.specs.Clash.{intervals_overlap, overlapping}
use Rattle.edf_holdings.proofs.Same.{same_record_no}
use Rattle.edf_tables.specs.Records.{shown_record}
use Rattle.edf_tables.specs.Columns.{by_column}
use Rattle.edf_rows.specs.Cells.{record_cells}
use Rattle.edf_rows.specs.Rows.{AreTwoOf}
use Rattle.edf_rows.proofs.Rows.{cases_first, no_member}
use Rattle.edf_rows.proofs.Kept.{two_later, first_two}

-- each row shows the record at its place
abbrev pub Show : List Row → List DataRecord → Type 0
Show [] [] = Unit {0}
Show [] (x ∷ xs) = ⊥
Show (row ∷ rows) [] = ⊥
Show (row ∷ rows) (x ∷ xs) = (shown_record row ≡ record_cells x) × Show rows xs

pub show_from : (rows : List Row) (xs : List DataRecord) →
    map shown_record rows ≡ map record_cells xs → Show rows xs
show_from [] [] e = tt
show_from [] (x ∷ xs) e = absurd (let n : ◌≡◌ {A = ℕ} 0 (suc (length (map record_cells xs))) =
    ap length e in omega (arith, n))
show_from (row ∷ rows) [] e = absurd (let n : ◌≡◌ {A = ℕ} (suc (length (map shown_record rows))) 0 =
    ap length e in omega (arith, n))
show_from (row ∷ rows) (x ∷ xs) e =
    let first : shown_record row ≡ record_cells x = cc in
    let rest : map shown_record rows ≡ map record_cells xs = cc in
    (first, show_from rows xs rest)

pub from_show : (rows : List Row) (xs : List DataRecord) → Show rows xs →
    map shown_record rows ≡ map record_cells xs
from_show [] [] s = refl
from_show [] (x ∷ xs) s = absurd s
from_show (row ∷ rows) [] s = absurd s
from_show (row ∷ rows) (x ∷ xs) s = let one = s.0 in let more = from_show rows xs s.1 in
    λ i. one i ∷ more i

pub start_cell : (row : Row) (x : DataRecord) → shown_record row ≡ record_cells x →
    column row 2 ≡ Int (pos x.start)
start_cell row x e = ap (λ (r : Row). column r 0) e

-- ---- starts compare as numbers
pub cell_less : (a b : ℤ) → a <ℤ b → value_cmp (Int a) (Int b) ≡ Less
cell_less a b h = value_cmp-Int a b ∙ sym (int_cmp_is a b Less h)

pub cell_more : (a b : ℤ) → b <ℤ a → value_cmp (Int a) (Int b) ≡ Greater
cell_more a b h = value_cmp-Int a b ∙ sym (int_cmp_is a b Greater h)

pub cell_same : (a b : ℤ) → a ≡ b → value_cmp (Int a) (Int b) ≡ Equal
cell_same a b h = value_cmp-Int a b ∙ sym (int_cmp_is a b Equal h)

pub pos_less : (a b : ℕ) → a < b → pos a <ℤ pos b
pos_less a b h = omega (arith, ints, h)

pub data Three (a b : ℕ) : Type 0 where
  below : a < b → Three a b
  level : a ≡ b → Three a b
  above : b < a → Three a b

pub three : (a b : ℕ) → Three a b
three a b = elim (cases_Bool (nat_lt a b)) [
  | inl l ↦ below (ltb-true a b l)
  | inr m ↦
      elim (cases_Bool (nat_lt b a)) [
        | inl l ↦ above (ltb-true b a l)
        | inr n ↦ level (let p = ltb-false a b m in let q = ltb-false b a n in omega (arith, p, q))
      ]
]

-- no record of the list has this start
abbrev pub NotAt : ℕ → List DataRecord → Type 0
NotAt start = AllByRecursion (λ (y : DataRecord). y.start ≢ start)

met : (d start : ℕ) (x : DataRecord) → 0 < d → x.start ≡ start → intervals_overlap d start x ≡ true
met d start x some e = and_from (nat_lt start (x.start + d)) (nat_lt x.start (start + d))
    (lt-ltb _ _ (omega (arith, some, e))) (lt-ltb _ _ (omega (arith, some, e)))

pub not_at : (d start : ℕ) (xs : List DataRecord) → 0 < d → overlapping d start xs ≡ [] →
    NotAt start xs
not_at d start [] some none = tt
not_at d start (x ∷ xs) some none =
    go (intervals_overlap d start x) refl none (not_at d start xs some)
  where
    go : (b : Bool) → intervals_overlap d start x ≡ b → overlapping d start (x ∷ xs) ≡ [] →
        (overlapping d start xs ≡ [] → NotAt start xs) → NotAt start (x ∷ xs)
    go true e none more = absurd (let n : ◌≡◌ {A = ℕ} (length (overlapping d start (x ∷ xs))) 0 =
        ap length none in let c =
        ap length (cond-true (intervals_overlap d start x) (x ∷ overlapping d start xs)
        (overlapping d start xs) e) in
        omega (arith, n, c))
    go false e none more = (
      (λ same. true≢false (sym (met d start x some same) ∙ e)),
      more (rw e at none),
    )

-- one row more shows one record more, in its place
pub show_more : (r : DataRecord) (new : Row) (rows : List Row) (xs : List DataRecord) →
    shown_record new ≡ record_cells r → NotAt r.start xs → Show rows xs →
    Show (insert_sorted (by_column 2) new rows) (insert r xs)
show_more r new [] [] e apart s = (e, tt)
show_more r new [] (x ∷ xs) e apart s = absurd s
show_more r new (row ∷ rows) [] e apart s = absurd s
show_more r new (row ∷ rows) (x ∷ xs) e apart s =
    go (three r.start x.start) (show_more r new rows xs e apart.1 s.1)
  where
    other : same_record x r ≡ false
    other = same_record_no x r (λ p. apart.0 (ap (λ (y : DataRecord). y.start) p))

    go : Three r.start x.start → Show (insert_sorted (by_column 2) new rows) (insert r xs) →
        Show (insert_sorted (by_column 2) new (row ∷ rows)) (insert r (x ∷ xs))
    go (below l) more =
        let c : by_column 2 new row ≡ Less =
        ap₂ value_cmp (start_cell new r e) (start_cell row x s.0)
        ∙ cell_less (pos r.start) (pos x.start) (pos_less r.start x.start l) in
        let n : nat_lt r.start x.start ≡ true = lt-ltb _ _ l in
        rw (c, other, n) (e, s)
    go (level l) more = absurd (apart.0 (sym l))
    go (above l) more =
        let c : by_column 2 new row ≡ Greater =
        ap₂ value_cmp (start_cell new r e) (start_cell row x s.0)
        ∙ cell_more (pos r.start) (pos x.start) (pos_less x.start r.start l) in
        let n : nat_lt r.start x.start ≡ false = grind (arith, nat_tests) in
        rw (c, other, n) (s.0, more)

pub others_at : (r : DataRecord) (new : Row) (rows : List Row) (xs : List DataRecord) →
    shown_record new ≡ record_cells r → NotAt r.start xs → Show rows xs →
    AllByRecursion (λ row. is_eq (by_column 2 row new) ≡ false) rows
others_at r new [] [] e apart s = tt
others_at r new [] (x ∷ xs) e apart s = absurd s
others_at r new (row ∷ rows) [] e apart s = absurd s
others_at r new (row ∷ rows) (x ∷ xs) e apart s =
    (go (three x.start r.start), others_at r new rows xs e apart.1 s.1)
  where
    cells : (o : Ordering) → value_cmp (Int (pos x.start)) (Int (pos r.start)) ≡ o →
        by_column 2 row new ≡ o
    cells o h = ap₂ value_cmp (start_cell row x s.0) (start_cell new r e) ∙ h

    go : Three x.start r.start → is_eq (by_column 2 row new) ≡ false
    go (below l) =
        ap is_eq (cells Less (cell_less (pos x.start) (pos r.start) (pos_less x.start r.start l)))
    go (level l) = absurd (apart.0 l)
    go (above l) =
        ap is_eq (cells Greater (cell_more (pos x.start) (pos r.start)
        (pos_less r.start x.start l)))

-- rows that show records in rising starts rise
pub rows_rise : (low : ℕ) (rows : List Row) (xs : List DataRecord) → Show rows xs →
    StartsAreSpaced 1 low xs → IsAscending (λ a b. by_column 2 a b ≡ Less) rows
rows_rise low [] [] s a = tt
rows_rise low [] (x ∷ xs) s a = absurd s
rows_rise low (row ∷ rows) [] s a = absurd s
rows_rise low (row ∷ rows) (x ∷ xs) s a =
    (later x.start rows xs (omega arith) s.1 a.1, rows_rise (x.start + 1) rows xs s.1 a.1)
  where
    later : (low : ℕ) (rows : List Row) (xs : List DataRecord) → x.start ≤ low → Show rows xs →
        StartsAreSpaced 1 (low + 1) xs → AllByRecursion (λ b. by_column 2 row b ≡ Less) rows
    later low [] [] le s' a' = tt
    later low [] (y ∷ ys) le s' a' = absurd s'
    later low (b ∷ bs) [] le s' a' = absurd s'
    later low (b ∷ bs) (y ∷ ys) le s' a' =
        let up : x.start < y.start = omega (arith, le, a'.0) in (
          ap₂ value_cmp (start_cell row x s.0) (start_cell b y s'.0)
              ∙ cell_less (pos x.start) (pos y.start) (pos_less x.start y.start up),
          later y.start bs ys (omega (arith, up)) s'.1 a'.1,
        )

-- a test of rows that is one of starts picks the rows of the records that it picks
pub show_filter : (p : Row → Bool) (q : DataRecord → Bool) →
    ((row : Row) (x : DataRecord) → column row 2 ≡ Int (pos x.start) → p row ≡ q x) →
    (rows : List Row) (xs : List DataRecord) → Show rows xs → Show (filter p rows) (filter q xs)
show_filter p q same [] [] s = tt
show_filter p q same [] (x ∷ xs) s = absurd s
show_filter p q same (row ∷ rows) [] s = absurd s
show_filter p q same (row ∷ rows) (x ∷ xs) s = go (q x) refl (show_filter p q same rows xs s.1)
  where
    go : (b : Bool) → q x ≡ b → Show (filter p rows) (filter q xs) →
        Show (filter p (row ∷ rows)) (filter q (x ∷ xs))
    go true e more = rw (same row x (start_cell row x s.0) ∙ e, e) (s.0, more)
    go false e more = rw (same row x (start_cell row x s.0) ∙ e, e) more

pub show_take : (n : ℕ) (rows : List Row) (xs : List DataRecord) → Show rows xs →
    Show (take n rows) (take n xs)
show_take zero rows xs s = tt
show_take (suc n) [] [] s = tt
show_take (suc n) [] (x ∷ xs) s = absurd s
show_take (suc n) (row ∷ rows) [] s = absurd s
show_take (suc n) (row ∷ rows) (x ∷ xs) s = (s.0, show_take n rows xs s.1)

pub show_length : (rows : List Row) (xs : List DataRecord) → Show rows xs → length rows ≡ length xs
show_length [] [] s = refl
show_length [] (x ∷ xs) s = absurd s
show_length (row ∷ rows) [] s = absurd s
show_length (row ∷ rows) (x ∷ xs) s = ap suc (show_length rows xs s.1)

-- ---- rows put in
pub all_put : (P : Row → Type 0) (new : Row) (rows : List Row) → P new → AllByRecursion P rows →
    AllByRecursion P (put_row new rows)
all_put P new [] h all = (h, tt)
all_put P new (row ∷ rows) h all =
    go (value_cmp (rowid row) (rowid new)) refl (all_put P new rows h all.1)
  where
    go : (o : Ordering) → value_cmp (rowid row) (rowid new) ≡ o →
        AllByRecursion P (put_row new rows) → AllByRecursion P (put_row new (row ∷ rows))
    go Less e more = rw e (all.0, more)
    go Equal e more = rw e (h, all.1)
    go Greater e more = rw e (h, all)

-- ---- two rows of a list that differ
pub two_of : (rows : List Row) (a b : Row) → Contains rows a → Contains rows b → a ≢ b →
    AreTwoOf rows a b
two_of [] a b ca cb apart = absurd (no_member a ca)
two_of (row ∷ rows) a b ca cb apart =
    go (cases_first row a rows ca) (cases_first row b rows cb) (λ p q. two_of rows a b p q apart)
  where
    go : (row ≡ a) ⊎ Contains rows a → (row ≡ b) ⊎ Contains rows b →
        (Contains rows a → Contains rows b → AreTwoOf rows a b) → AreTwoOf (row ∷ rows) a b
    go (inl p) (inl q) more = absurd (apart (sym p ∙ q))
    go (inl p) (inr q) more = subst (λ r. AreTwoOf (r ∷ rows) a b) (sym p) (first_two a b rows q)
    go (inr p) (inl q) more =
        let two = first_two b a rows p in
        subst (λ r. AreTwoOf (r ∷ rows) a b) (sym q) (
          two.0,
          IsPermutation-trans _ _ _ two.1 (IsPermutation-middle (b ∷ []) a two.0),
        )
    go (inr p) (inr q) more = two_later row a b rows (more p q)
