-- How many records belong to the recordings that were met.
use Rattle.std.proofs.Common.{◌≡◌, ℕ, ◌+◌, ℤ, Bool, true, false, ◌||◌, List, [], ◌∷◌, ◌++◌, filter}
use Rattle.std.proofs.Common.{length, Option, Some, None, refl, sym, ap, ◌∙◌, arith, Ordering, Less}
use Rattle.std.proofs.Common.{Equal, Greater, is_gt, is_eq, true≢false}
use Rattle.std.specs.List.{AllByRecursion, list_any}
use Rattle.std.specs.Ordering.{ordering_reverse}
use Rattle.std.proofs.lemmas.Cmp.{alike_right}
use Rattle.std.proofs.lemmas.List.{length-map}
use Rattle.std.proofs.lemmas.List.Folds.{list_any-append}
use Rattle.std.proofs.lemmas.List.Sorted.{length_permutation}
use Rattle.sqlite.specs.declared.types.Value.{Value}
use Rattle.sqlite.specs.declared.types.Value.TheVariants.{Int}
use Rattle.sqlite.specs.Order.{Row}
use Rattle.sqlite.specs.Tree.{Trees}
use Rattle.sqlite_value.specs.Order.{column, value_cmp}
use Rattle.sqlite_value.proofs.OrderLemmas.{value_cmp_total, value_cmp-Int}
use Rattle.sqlite_trees.specs.Tree.{IsAscending}
use Rattle.sqlite_keyed.specs.Lists.{sort_by}
use Rattle.sqlite_keyed.proofs.SortLemmas.{IsPermutation-sort_by}
use Rattle.edf_tables.proofs.Answers.{column_total}
use Rattle.edf_tables.proofs.Apart.{equal_of}
use Rattle.edf_rows.specs.Cells.{records_in}
use Rattle.edf_tables.specs.Columns.{by_column, is_of}
use Rattle.edf_rows.specs.Inside.Shape.{HasRecords}
use Rattle.edf_rows.specs.Inside.All.{IsAfter, owns, owned_by, AreCounted}

-- ---- values
pub turned : (a b : Value) → value_cmp a b ≡ Equal → value_cmp b a ≡ Equal
turned a b e = value_cmp_total.antisymm b a ∙ ap ordering_reverse e

-- a value that is alike to the smaller of two is not alike to the other
pub never_both : (v x y : Value) → value_cmp x y ≡ Less → is_eq (value_cmp v x) ≡ true →
    is_eq (value_cmp v y) ≡ false
never_both v x y less one = go (is_eq (value_cmp v y)) refl
  where
    go : (b : Bool) → is_eq (value_cmp v y) ≡ b → is_eq (value_cmp v y) ≡ false
    go false e = e
    go true e =
        let first : value_cmp x v ≡ Equal = turned v x (equal_of _ one) in
        let both : value_cmp x y ≡ Equal = sym (alike_right value_cmp_total v y x (equal_of _ e))
        ∙ first in
        absurd (true≢false (ap is_eq (sym both ∙ less)))

-- not above the last value, and so below the next
below_next : (v x y : Value) → is_gt (value_cmp v x) ≡ false → value_cmp x y ≡ Less →
    value_cmp v y ≡ Less
below_next v x y up less = go (value_cmp v x) refl
  where
    go : (o : Ordering) → value_cmp v x ≡ o → value_cmp v y ≡ Less
    go Less e = value_cmp_total.trans v x y e less
    go Equal e =
        let down : value_cmp y x ≡ Greater = value_cmp_total.antisymm y x
        ∙ ap ordering_reverse less in
        value_cmp_total.antisymm v y ∙ ap ordering_reverse (alike_right value_cmp_total v x y e
        ∙ down)
    go Greater e = absurd (true≢false (sym (ap is_gt e) ∙ up))

-- ---- lists
module _ {X : Type 0} where
  pub length_or : (p q : X → Bool) (xs : List X) → ((x : X) → p x ≡ true → q x ≡ false) →
      length (filter (λ x. p x || q x) xs) ≡ length (filter p xs) + length (filter q xs)
  length_or p q [] apart = refl
  length_or p q (x ∷ xs) apart = go (p x) (q x) refl refl (length_or p q xs apart)
    where
      go : (a b : Bool) → p x ≡ a → q x ≡ b →
          length (filter (λ x. p x || q x) xs) ≡ length (filter p xs) + length (filter q xs)
          → length (filter (λ x. p x || q x) (x ∷ xs)) ≡ length (filter p (x ∷ xs)) + length
          (filter q (x ∷ xs))
      go true true e f more = absurd (true≢false (sym f ∙ apart x e))
      go true false e f more = rw (e, f) (omega (arith, more))
      go false true e f more = rw (e, f) (omega (arith, more))
      go false false e f more = rw (e, f) more

  none_kept : (xs : List X) → length (filter (λ (x : X). false) xs) ≡ 0
  none_kept [] = refl
  none_kept (x ∷ xs) = none_kept xs

  all_push : (P : X → Type 0) (xs : List X) (x : X) → AllByRecursion P xs → P x →
      AllByRecursion P (xs ++ x ∷ [])
  all_push P [] x h p = (p, tt)
  all_push P (y ∷ ys) x h p = (h.0, all_push P ys x h.1 p)

  rise_push : (R : X → X → Type 0) (xs : List X) (x : X) → IsAscending R xs →
      AllByRecursion (λ y. R y x) xs → IsAscending R (xs ++ x ∷ [])
  rise_push R [] x up all = (tt, tt)
  rise_push R (y ∷ ys) x up all = (all_push (R y) ys x up.0 all.0, rise_push R ys x up.1 all.1)

-- ---- one recording more
abbrev pub IsUpTo : Option ℤ → Row → Type 0
IsUpTo None row = ⊥
IsUpTo (Some last) row = is_gt (value_cmp (column row 0) (Int last)) ≡ false

-- the last of the rows has this id
abbrev pub IsLastOf : Option ℤ → List Row → Type 0
IsLastOf None rows = Unit {0}
IsLastOf (Some last) rows = (front : List Row) × (row : Row) × (rows ≡ front ++ row ∷ [])
    × (column row 0 ≡ Int last)

below_all : (last : Option ℤ) (id : ℤ) (row : Row) (rows : List Row) →
    AllByRecursion (IsUpTo last) rows → IsAfter last row id →
    AllByRecursion (λ g. value_cmp (column g 0) (column row 0) ≡ Less) rows
below_all last id row [] up after = tt
below_all None id row (g ∷ rows) up after = absurd up.0
below_all (Some last) id row (g ∷ rows) up after = (
  below_next (column g 0) (Int last) (column row 0) up.0 (ap (value_cmp (Int last)) after.0
      ∙ value_cmp-Int last id ∙ after.1),
  below_all (Some last) id row rows up.1 after,
)

pub is_id : (last : Option ℤ) (id : ℤ) (row : Row) → IsAfter last row id → column row 0 ≡ Int id
is_id None id row after = after
is_id (Some last) id row after = after.0

up_all : (id : ℤ) (row : Row) (rows : List Row) → column row 0 ≡ Int id →
    AllByRecursion (λ g. value_cmp (column g 0) (column row 0) ≡ Less) rows →
    AllByRecursion (IsUpTo (Some id)) rows
up_all id row [] is all = tt
up_all id row (g ∷ rows) is all = (
  ap (λ v. is_gt (value_cmp (column g 0) v)) (sym is)
      ∙ ap is_gt all.0,
  up_all id row rows is all.1,
)

not_above : (v : Value) → is_gt (value_cmp v v) ≡ false
not_above v = ap is_gt (Rattle.std.proofs.lemmas.Cmp.tied_itself value_cmp_total v)

pub up_push : (last : Option ℤ) (id : ℤ) (row : Row) (rows : List Row) →
    AllByRecursion (IsUpTo last) rows → IsAfter last row id →
    AllByRecursion (IsUpTo (Some id)) (rows ++ row ∷ [])
up_push last id row rows up after =
    let is = is_id last id row after in
    all_push (IsUpTo (Some id)) rows row
    (up_all id row rows is (below_all last id row rows up after))
    (ap (λ v. is_gt (value_cmp (column row 0) v)) (sym is) ∙ not_above (column row 0))

no_other : (rows : List Row) (row r : Row) →
    AllByRecursion (λ g. value_cmp (column g 0) (column row 0) ≡ Less) rows →
    list_any (λ g. owns g r) rows ≡ true → owns row r ≡ false
no_other [] row r all h = absurd (true≢false (sym h))
no_other (g ∷ rows) row r all h = go (owns g r) refl (no_other rows row r all.1)
  where
    go : (b : Bool) → owns g r ≡ b → (list_any (λ g. owns g r) rows ≡ true → owns row r ≡ false) →
        owns row r ≡ false
    go true e more = never_both (column r 1) (column g 0) (column row 0) all.0 e
    go false e more = more (rw e at h)

own_length : (cap : ℕ) (trees : Trees) (row : Row) (has : HasRecords cap trees row) →
    length (records_in trees has.id) ≡ length (filter (owns row) (trees 2))
own_length cap trees row has =
    let kept = filter (is_of has.id) (trees 2) in
    let id : column row 0 ≡ Int has.id = ap (λ (r : Row). column r 0) has.cells in
    length-map (sort_by (by_column 2) kept) _
    ∙ sym (length_permutation _ _ (IsPermutation-sort_by (by_column 2) (column_total 2) kept))
    ∙ ap (λ v. length (filter (λ (r : Row). is_eq (value_cmp (column r 1) v)) (trees 2))) (sym id)

pub counted_none : (cap : ℕ) (trees : Trees) → AreCounted cap trees [] 0
counted_none cap trees = record { has = tt; apart = tt; sums = sym (none_kept (trees 2)) }

either_end : (b : Bool) → (b || false) ≡ b
either_end true = refl
either_end false = refl

pub counted_push : (cap : ℕ) (trees : Trees) (rows : List Row) (row : Row) (sum count : ℕ)
    (last : Option ℤ) (id : ℤ) → AreCounted cap trees rows sum → AllByRecursion (IsUpTo last) rows →
    IsAfter last row id
    → (has : HasRecords cap trees row) × (count ≡ length (records_in trees has.id)) →
    AreCounted cap trees (rows ++ row ∷ []) (sum + count)
counted_push cap trees rows row sum count last id counted up after has =
    let below = below_all last id row rows up after in
    let any : Row → Bool = λ r. list_any (λ g. owns g r) rows in
    let parts : length (filter (λ r. any r || owns row r) (trees 2)) ≡ length
    (filter any (trees 2)) + length (filter (owns row) (trees 2)) =
    length_or any (owns row) (trees 2) (λ r h. no_other rows row r below h) in
    let each : (r : Row) → list_any (λ g. owns g r) (rows ++ row ∷ []) ≡ (any r || owns row r) =
    λ r. list_any-append (λ g. owns g r) rows (row ∷ [])
    ∙ ap (λ b. any r || b) (either_end (owns row r)) in
    let all : owned_by trees (rows ++ row ∷ []) ≡ length
    (filter (λ r. any r || owns row r) (trees 2)) =
    ap (λ (p : Row → Bool). length (filter p (trees 2))) (λ i r. each r i) in
    let own = own_length cap trees row has.0 in
    let size = has.1 in
    let sums = counted.sums in
    record {
      has = all_push (HasRecords cap trees) rows row counted.has has.0;
      apart = rise_push (λ a b. value_cmp (column a 0) (column b 0) ≡ Less) rows row counted.apart
          below;
      sums = omega (arith, parts, all, own, size, sums);
    }
