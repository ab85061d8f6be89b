-- Rows that were given one at a time, against a recording's rows by rising starts.
use Rattle.std.proofs.Common.{◌≡◌, ℕ, zero, suc, ◌+◌, ◌<◌, ℤ, pos, Bool, true, false, List, []}
use Rattle.std.proofs.Common.{◌∷◌, ◌++◌, map, filter, Option, Some, None, Contains, refl}
use Rattle.std.proofs.Common.{sym, ap, subst, ◌∙◌, arith, ap₂, int_cmp, Ordering, Less, Equal}
use Rattle.std.proofs.Common.{Greater, is_lt, is_gt, true≢false, IsPermutation, IsSorted}
use Rattle.std.specs.List.{AllByRecursion}
use Rattle.std.specs.Cmp.{IsTotalOrder}
use Rattle.std.specs.Ordering.{ordering_reverse}
use Rattle.std.proofs.lemmas.Bool.Decides.{nat_tests}
use Rattle.std.proofs.lemmas.List.Elements.{Contains-append_right}
use Rattle.std.proofs.lemmas.Cmp.{int_cmp_total, int_ranked, tied_itself, upto}
use Rattle.std.proofs.lemmas.List.Sorted.{length_permutation, Contains-permutation}
use Rattle.std.proofs.lemmas.List.Sorted.{IsPermutation-trans, IsPermutation-sym, IsPermutation-map}
use Rattle.std.proofs.lemmas.List.Sorted.{IsPermutation-append_comm}
use Rattle.sqlite.specs.declared.types.Value.{Value}
use Rattle.sqlite.specs.declared.types.Value.TheVariants.{Null, Int, Real, Text, Blob}
use Rattle.sqlite.specs.Order.{Row}
use Rattle.sqlite.specs.Tree.{Trees}
use Rattle.sqlite_value.specs.Order.{column, value_cmp}
use Rattle.sqlite_value.proofs.OrderLemmas.{value_cmp-Int}
use Rattle.sqlite_trees.specs.Tree.{IsAscending}
use Rattle.sqlite_sql.specs.Query.{IsAnswer}
use Rattle.sqlite_sql.specs.Program.{overlay}
use Rattle.sqlite_keyed.specs.Lists.{sort_by}
use Rattle.sqlite_keyed.proofs.ListLemmas.{all_weaker}
use Rattle.sqlite_trees.proofs.ListLemmas.{all-permutation}
use Rattle.sqlite_keyed.proofs.SortLemmas.{sort_by-map, sorted_unique, IsPermutation-sort_by}
use Rattle.edf_field.specs.Number.{duration_of}
use Rattle.edf_header.specs.Key.{Key, MayStart}
use Rattle.edf_fragment.specs.Fragment.{DataRecord}
use Rattle.edf_fragment.specs.Sound.{IsSoundRecord, AreSoundFrom, FirstMayStart}
use Rattle.edf_tables.specs.Cells.{first_three}
use Rattle.edf_tables.proofs.Queries.{ordered_query, of_recording, start_samples_block, passes}
use Rattle.edf_tables.proofs.Sorting.{rising_sort}
use Rattle.edf_tables.proofs.Terms.{is_of_passes}
use Rattle.edf_tables.proofs.Answers.{column_total, some_order}
use Rattle.edf_rows.specs.Cells.{record_cells, records_in}
use Rattle.edf_tables.specs.Columns.{by_column, is_of}
use Rattle.edf_rows.specs.Rows.{AreTwoOf}
use Rattle.edf_rows.specs.Foreign.{AreBadRecords, bad_row, too_late, bad_start}
use Rattle.edf_rows.proofs.Rows.{here, mapped}
use Rattle.edf_rows.specs.Inside.Records.{MayComeNext}

-- ---- sorted lists
module _ {X : Type 0} (cmp : X → X → Ordering) (total : IsTotalOrder cmp) where
  not_below : (x y : X) → is_gt (cmp x y) ≡ false → is_lt (cmp y x) ≡ false
  not_below x y h = go (cmp x y) refl h
    where
      go : (o : Ordering) → cmp x y ≡ o → is_gt (cmp x y) ≡ false → is_lt (cmp y x) ≡ false
      go Less e h = ap is_lt (total.antisymm y x ∙ ap ordering_reverse e)
      go Equal e h = ap is_lt (total.antisymm y x ∙ ap ordering_reverse e)
      go Greater e h = absurd (true≢false (sym (ap is_gt e) ∙ h))

  not_above : (x y : X) → is_lt (cmp y x) ≡ false → is_gt (cmp x y) ≡ false
  not_above x y h = go (cmp y x) refl h
    where
      go : (o : Ordering) → cmp y x ≡ o → is_lt (cmp y x) ≡ false → is_gt (cmp x y) ≡ false
      go Less e h = absurd (true≢false (sym (ap is_lt e) ∙ h))
      go Equal e h = ap is_gt (total.antisymm x y ∙ ap ordering_reverse e)
      go Greater e h = ap is_gt (total.antisymm x y ∙ ap ordering_reverse e)

  -- neighbours are in order where all are
  sorted_from : (xs : List X) → IsAscending (λ a b. is_gt (cmp a b) ≡ false) xs → IsSorted cmp xs
  sorted_from [] up k d low high = absurd (omega arith)
  sorted_from (x ∷ []) up k d low high = absurd (omega arith)
  sorted_from (x ∷ y ∷ ys) up zero d low high = not_below x y up.0.0
  sorted_from (x ∷ y ∷ ys) up (suc k) d low high =
      rw Rattle.std.proofs.Common.add-one
      (rw Rattle.std.proofs.Common.add-one at
      (sorted_from (y ∷ ys) up.1 k d (omega arith) (omega arith)))

  pub sort_by_sorted : (xs : List X) → IsSorted cmp (sort_by cmp xs)
  sort_by_sorted xs = sorted_from (sort_by cmp xs) (rising_sort cmp total xs)

  -- the first of a sorted list is not above the others
  least : (x : X) (ys : List X) → IsSorted cmp (x ∷ ys) →
      AllByRecursion (λ z. is_gt (cmp x z) ≡ false) ys
  least x [] sorted = tt
  least x (y ∷ ys) sorted =
      let first : is_gt (cmp x y) ≡ false =
      not_above x y (sorted 0 x (omega arith) (omega arith)) in
      let tail : IsSorted cmp (y ∷ ys) = λ k d low high.
      rw Rattle.std.proofs.Common.add-one
      (rw Rattle.std.proofs.Common.add-one at (sorted (suc k) d (omega arith) (omega arith))) in (
        first,
        all_weaker (λ z. is_gt (cmp y z) ≡ false) (λ z. is_gt (cmp x z) ≡ false)
            (λ z. upto total x y z first) ys (least y ys tail),
      )

  itself : (x : X) → is_gt (cmp x x) ≡ false
  itself x = ap is_gt (tied_itself total x)

  -- of two orders of a list that do not fall, neither first is above the other
  tied_first : (x y : X) (xs ys : List X) → AllByRecursion (λ z. is_gt (cmp x z) ≡ false) xs →
      IsSorted cmp (y ∷ ys) → IsPermutation (x ∷ xs) (y ∷ ys)
      → (is_gt (cmp x y) ≡ false) × (is_gt (cmp y x) ≡ false)
  tied_first x y xs ys up sorted same = (
    (all-permutation (λ z. is_gt (cmp x z) ≡ false) (x ∷ xs) (y ∷ ys) same (itself x, up)).0,
    (all-permutation (λ z. is_gt (cmp y z) ≡ false) (y ∷ ys) (x ∷ xs) (IsPermutation-sym _ _ same)
        (itself y, least y ys sorted)).0,
  )

-- ---- the last start
abbrev pub last_start : List DataRecord → Option ℕ
last_start [] = None
last_start (r ∷ []) = Some r.start
last_start (r ∷ s ∷ rs) = last_start (s ∷ rs)

pub last_push : (rs : List DataRecord) (r : DataRecord) → last_start (rs ++ r ∷ []) ≡ Some r.start
last_push [] r = refl
last_push (x ∷ []) r = refl
last_push (x ∷ y ∷ rs) r = last_push (y ∷ rs) r

pub last_split : (rs : List DataRecord) (m : ℕ) → last_start rs ≡ Some m → (front : List DataRecord)
    × (l : DataRecord) × (rs ≡ front ++ l ∷ []) × (l.start ≡ m)
last_split [] m h = absurd (cc)
last_split (x ∷ []) m h = ([], x, refl, (let e : x.start ≡ m = cc in e))
last_split (x ∷ y ∷ rs) m h = let more = last_split (y ∷ rs) m h in
    (x ∷ more.0, more.1, ap (λ l. x ∷ l) more.2, more.3)

pub no_last : (rs : List DataRecord) → last_start rs ≡ None → rs ≡ []
no_last [] h = refl
no_last (x ∷ []) h = absurd (cc)
no_last (x ∷ y ∷ rs) h = absurd (let none = no_last (y ∷ rs) h in cc)

push_after : (k : Key) (low : ℕ) (x : DataRecord) (rs : List DataRecord) (r : DataRecord) →
    AreSoundFrom k low (x ∷ rs) → IsSoundRecord k r → MayComeNext k (last_start (x ∷ rs)) r.start →
    AreSoundFrom k low ((x ∷ rs) ++ r ∷ [])
push_after k low x [] r s sound follows = (s.0, s.1, (sound, follows, tt))
push_after k low x (y ∷ rs) r s sound follows =
    (s.0, s.1, push_after k (x.start + duration_of k.duration) y rs r s.2 sound follows)

pub push_sound : (k : Key) (rs : List DataRecord) (r : DataRecord) → AreSoundFrom k 0 rs →
    IsSoundRecord k r → MayComeNext k (last_start rs) r.start → AreSoundFrom k 0 (rs ++ r ∷ [])
push_sound k [] r s sound follows = (sound, omega arith, tt)
push_sound k (x ∷ rs) r s sound follows = push_after k 0 x rs r s sound follows

pub push_begins : (k : Key) (rs : List DataRecord) (r : DataRecord) → FirstMayStart k rs →
    MayComeNext k (last_start rs) r.start → FirstMayStart k (rs ++ r ∷ [])
push_begins k [] r begins follows = follows
push_begins k (x ∷ rs) r begins follows = begins

-- ---- sound records rise
pub starts_rise : (m n : ℕ) → m < n → value_cmp (Int (pos m)) (Int (pos n)) ≡ Less
starts_rise m n h = value_cmp-Int (pos m) (pos n) ∙ grind (arith, nat_tests)

all_later : (k : Key) (low n : ℕ) (rs : List DataRecord) → AreSoundFrom k low rs → n < low →
    AllByRecursion (λ b. value_cmp (Int (pos n)) (column b 0) ≡ Less) (map record_cells rs)
all_later k low n [] s less = tt
all_later k low n (r ∷ rs) s less = (
  starts_rise n r.start (let up = s.1 in omega (arith, less, up)),
  all_later k (r.start + duration_of k.duration) n rs s.2 (let up = s.1 in
      omega (arith, less, up)),
)

rises : (k : Key) (low : ℕ) (rs : List DataRecord) → 0 < duration_of k.duration →
    AreSoundFrom k low rs → IsAscending (λ a b. by_column 0 a b ≡ Less) (map record_cells rs)
rises k low [] long s = tt
rises k low (r ∷ rs) long s = (
  all_later k (r.start + duration_of k.duration) r.start rs s.2 (omega (arith, long)),
  rises k (r.start + duration_of k.duration) rs long s.2,
)

-- ---- the rows that a query gives
abbrev shown : Row → Row
shown row = column row 2 ∷ column row 3 ∷ column row 4 ∷ []

abbrev kept : Trees → ℤ → List Row
kept trees id = filter (is_of id) (trees 2)

in_order : (trees : Trees) (id : ℤ) →
    IsPermutation (records_in trees id) (map shown (kept trees id))
in_order trees id = IsPermutation-map shown (sort_by (by_column 2) (kept trees id)) (kept trees id)
    (IsPermutation-sort_by (by_column 2) (column_total 2) (kept trees id))

pub answer_moved : (trees : Trees) (id : ℤ) (rows : List Row) →
    IsAnswer (ordered_query 2 (of_recording ∷ []) start_samples_block 2) (overlay trees [])
    (Int id ∷ []) rows → IsPermutation (records_in trees id) rows
answer_moved trees id rows a =
    let some = some_order 2 2 (of_recording ∷ []) start_samples_block (Int id ∷ [])
    (overlay trees []) rows a in
    let same : filter (passes (Int id ∷ []) (of_recording ∷ [])) (trees 2) ≡ kept trees id =
    ap (λ (p : Row → Bool). filter p (trees 2)) (λ i r. is_of_passes id r i) in
    IsPermutation-trans _ _ _ (in_order trees id)
    (subst (λ (l : List Row). IsPermutation (map shown l) rows) same some)

-- sound records that a query gives are all that there are, in order
pub only_sound : (trees : Trees) (id : ℤ) (k : Key) (rs : List DataRecord) →
    0 < duration_of k.duration → AreSoundFrom k 0 rs →
    IsPermutation (records_in trees id) (map record_cells rs) →
    records_in trees id ≡ map record_cells rs
only_sound trees id k rs long sound same =
    let xs = map shown (kept trees id) in
    let placed : sort_by (by_column 0) xs ≡ records_in trees id =
    sort_by-map (by_column 0) shown (kept trees id) in
    let there : IsPermutation (map record_cells rs) (sort_by (by_column 0) xs) =
    subst (IsPermutation (map record_cells rs)) (sym placed) (IsPermutation-sym _ _ same) in
    sym placed ∙ sorted_unique (by_column 0) (column_total 0) (map record_cells rs)
    (sort_by (by_column 0) xs) (rises k 0 rs long sound) there
    (sort_by_sorted (by_column 0) (column_total 0) xs)

-- a recording's rows are in the order of their starts
pub by_start : (trees : Trees) (id : ℤ) →
    IsAscending (λ a b. is_gt (by_column 0 a b) ≡ false) (records_in trees id)
by_start trees id = subst (IsAscending (λ a b. is_gt (by_column 0 a b) ≡ false))
    (sort_by-map (by_column 0) shown (kept trees id))
    (rising_sort (by_column 0) (column_total 0) (map shown (kept trees id)))

pub all_any : (xs : List Row) → AllByRecursion (λ (x : Row). Unit {0}) xs
all_any [] = tt
all_any (x ∷ xs) = (tt, all_any xs)

pub is_three : (trees : Trees) (id : ℤ) (row : Row) → Contains (records_in trees id) row →
    row ≡ first_three row
is_three trees id row c =
    let it = mapped shown (λ (x : Row). Unit {0}) (sort_by (by_column 2) (kept trees id)) row
    (all_any (sort_by (by_column 2) (kept trees id))) c in
    it.2 ∙ sym (ap first_three it.2)

pub given_member : (trees : Trees) (id : ℤ) (front tail : List Row) (row : Row) →
    IsPermutation (records_in trees id) (front ++ row ∷ tail) → Contains (records_in trees id) row
given_member trees id front tail row same =
    Contains-permutation (front ++ row ∷ tail) (records_in trees id) row
    (IsPermutation-sym _ _ same) (Contains-append_right front (row ∷ tail) row (here row tail))

pub given_two : (trees : Trees) (id : ℤ) (front tail : List Row) (a b : Row) →
    IsPermutation (records_in trees id) (front ++ a ∷ b ∷ tail) → AreTwoOf (records_in trees id) a b
given_two trees id front tail a b same =
    (tail ++ front, IsPermutation-trans _ _ _ same (IsPermutation-append_comm front (a ∷ b ∷ tail)))

-- ---- the first row
same_int : (a b : ℤ) → is_gt (int_cmp a b) ≡ false → is_gt (int_cmp b a) ≡ false → a ≡ b
same_int a b up down = go (int_cmp a b) refl
  where
    go : (o : Ordering) → int_cmp a b ≡ o → a ≡ b
    go Less e = absurd
        (true≢false (sym (ap is_gt (int_cmp_total.antisymm b a ∙ ap ordering_reverse e)) ∙ down))
    go Equal e = int_ranked a b Equal (sym e)
    go Greater e = absurd (true≢false (sym (ap is_gt e) ∙ up))

-- where the first that a query gives starts too late, so does the first in order, or its start is
-- none
pub late_first : (cap : ℕ) (k : Key) (rows tail : List Row) (row : Row) (start : ℕ) →
    IsAscending (λ a b. is_gt (by_column 0 a b) ≡ false) rows →
    IsSorted (by_column 0) (row ∷ tail) → IsPermutation rows (row ∷ tail)
    → column row 0 ≡ Int (pos start) → ¬ MayStart k start → AreBadRecords cap k rows
late_first cap k [] tail row start up sorted same at late =
    absurd (omega (arith, length_permutation _ _ same))
late_first cap k (x ∷ xs) tail row start up sorted same at late = go (column x 0) refl
  where
    tied : (is_gt (by_column 0 x row) ≡ false) × (is_gt (by_column 0 row x) ≡ false)
    tied = tied_first (by_column 0) (column_total 0) x row xs tail up.0 sorted same

    other : ((n : ℕ) → column x 0 ≡ Int (pos n) → ⊥) → AreBadRecords cap k (x ∷ xs)
    other none = bad_row x (here x xs) (bad_start (λ n is. none n is.0))

    go : (v : Value) → column x 0 ≡ v → AreBadRecords cap k (x ∷ xs)
    go (Int z) e =
        let first : is_gt (int_cmp z (pos start)) ≡ false =
        sym (ap is_gt (ap₂ value_cmp e at ∙ value_cmp-Int z (pos start))) ∙ tied.0 in
        let second : is_gt (int_cmp (pos start) z) ≡ false =
        sym (ap is_gt (ap₂ value_cmp at e ∙ value_cmp-Int (pos start) z)) ∙ tied.1 in
        too_late (start, e ∙ ap Int (same_int z (pos start) first second), late)
    go Null e = other (λ n f. cc)
    go (Real y) e = other (λ n f. cc)
    go (Text t) e = other (λ n f. cc)
    go (Blob b) e = other (λ n f. cc)
