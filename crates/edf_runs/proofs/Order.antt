-- Annotations have one order.
use Rattle.std.proofs.Common.{◌≡◌, ℕ, zero, suc, ◌+◌, ◌<◌, ◌≤◌, List, [], ◌∷◌, length, refl, sym}
use Rattle.std.proofs.Common.{ap}
use Rattle.std.proofs.Common.{◌∙◌, subst, arith, Option, Some, None, ◌⊎◌, inl, inr, get_or, set}
use Rattle.std.specs.Prelude.{Bool, true, false, IsPermutation, if◌then◌else◌, swap}
use Rattle.std.proofs.lemmas.List.Sorted.{IsPermutation-refl, IsPermutation-trans}
use Rattle.std.proofs.lemmas.List.Sorted.{IsPermutation-cons, IsPermutation-keeps}
use Rattle.std.proofs.lemmas.List.Sorted.{IsPermutation-append, IsPermutation-to_front}
use Rattle.std.specs.declared.cmp.Ordering.{Ordering}
use Rattle.std.specs.declared.cmp.Ordering.TheVariants.{Less, Equal, Greater}
use Rattle.std.specs.Ordering.{nat_cmp, ordering_then, ordering_reverse, is_le, is_lt, is_gt, on}
use Rattle.std.specs.Ordering.{MatchOrdering}
use Rattle.std.specs.Option.{option_cmp}
use Rattle.std.specs.Cmp.{IsTotalOrder, upto, nat_cmp_total, on_total, then_total, ranks}
use Rattle.std.specs.Cmp.Lexicographic.{slice_cmp, options_total, nat_list_cmp_total}
use Rattle.std.specs.List.{AllByRecursion}
use Rattle.edf_tal.specs.Tal.{Annotation}
use Rattle.edf_runs.specs.Order.{annotation_cmp, AreInOrder, put_in_order, in_order, HaveOneOrder}

-- ---- the order is total, and equal annotations are one and the same

onsets : IsTotalOrder (on (λ (a : Annotation). a.onset) nat_cmp)
onsets = on_total (λ (a : Annotation). a.onset) nat_cmp_total

durations : IsTotalOrder (on (λ (a : Annotation). a.duration) (option_cmp nat_cmp))
durations = on_total (λ (a : Annotation). a.duration) (options_total nat_cmp_total)

texts : IsTotalOrder (on (λ (a : Annotation). a.text) (slice_cmp nat_cmp))
texts = on_total (λ (a : Annotation). a.text) nat_list_cmp_total

pub total : IsTotalOrder annotation_cmp
total = then_total onsets (then_total durations texts)

both-equal : (r s : Ordering) → ordering_then r s ≡ Equal → (r ≡ Equal) × (s ≡ Equal)
both-equal Less s e = absurd (let f = e in cc)
both-equal Equal s e = (refl, e)
both-equal Greater s e = absurd (let f = e in cc)

ranked : (r : Ordering) (x y : ℕ) → nat_cmp x y ≡ r → r ≡ Equal → x ≡ y
ranked r x y is e = by (nat_cmp x y) (ranks x y) (is ∙ e)
  where
    by : (o : Ordering) → MatchOrdering o (x < y) (x ≡ y) (y < x) → o ≡ Equal → x ≡ y
    by Less h q = absurd (let f = q in cc)
    by Equal h q = h
    by Greater h q = absurd (let f = q in cc)

same-number : (x y : ℕ) → nat_cmp x y ≡ Equal → x ≡ y
same-number x y e = ranked Equal x y e refl

same-duration : (x y : Option ℕ) → option_cmp nat_cmp x y ≡ Equal → x ≡ y
same-duration None None e = refl
same-duration None (Some y) e = absurd (let f = e in cc)
same-duration (Some x) None e = absurd (let f = e in cc)
same-duration (Some x) (Some y) e = ap (λ (n : ℕ). Some n) (same-number x y e)

same-text : (xs ys : List ℕ) → slice_cmp nat_cmp xs ys ≡ Equal → xs ≡ ys
same-text [] [] e = refl
same-text [] (y ∷ ys) e = absurd (let f = e in cc)
same-text (x ∷ xs) [] e = absurd (let f = e in cc)
same-text (x ∷ xs) (y ∷ ys) e =
    let both = both-equal (nat_cmp x y) (slice_cmp nat_cmp xs ys) e in
    ap (λ n. n ∷ xs) (same-number x y both.0) ∙ ap (λ l. y ∷ l) (same-text xs ys both.1)

pub one-annotation : (a b : Annotation) → annotation_cmp a b ≡ Equal → a ≡ b
one-annotation a b e =
    let o = both-equal (nat_cmp a.onset b.onset) (ordering_then (option_cmp nat_cmp a.duration
    b.duration) (slice_cmp nat_cmp a.text b.text)) e in
    let d = both-equal (option_cmp nat_cmp a.duration b.duration) (slice_cmp nat_cmp a.text b.text)
    o.1 in
    ap (λ n. record { onset = n; duration = a.duration; text = a.text })
    (same-number a.onset b.onset o.0)
    ∙ ap (λ n. record { onset = b.onset; duration = n; text = a.text })
    (same-duration a.duration b.duration d.0)
    ∙ ap (λ n. record { onset = b.onset; duration = b.duration; text = n })
    (same-text a.text b.text d.1)

-- ---- at or before

pub le : Annotation → Annotation → Bool
le a b = is_le (annotation_cmp a b)

le-gt : (r : Ordering) → is_le r ≡ true → is_gt r ≡ false
le-gt Less e = refl
le-gt Equal e = refl
le-gt Greater e = absurd (let f = e in cc)

gt-le : (r : Ordering) → is_gt r ≡ false → is_le r ≡ true
gt-le Less e = refl
gt-le Equal e = refl
gt-le Greater e = absurd (let f = e in cc)

le-back : (r : Ordering) → is_le r ≡ false → is_le (ordering_reverse r) ≡ true
le-back Less e = absurd (let f = e in cc)
le-back Equal e = absurd (let f = e in cc)
le-back Greater e = refl

le-both : (r : Ordering) → is_le r ≡ true → is_le (ordering_reverse r) ≡ true → r ≡ Equal
le-both Less e q = absurd (let f = q in cc)
le-both Equal e q = refl
le-both Greater e q = absurd (let f = e in cc)

pub le-trans : (a b c : Annotation) → le a b ≡ true → le b c ≡ true → le a c ≡ true
unfolding le
le-trans a b c p q = gt-le (annotation_cmp a c)
    (upto total a b c (le-gt (annotation_cmp a b) p) (le-gt (annotation_cmp b c) q))

pub le-total : (a b : Annotation) → le a b ≡ false → le b a ≡ true
unfolding le
le-total a b e = ap is_le (total.antisymm b a) ∙ le-back (annotation_cmp a b) e

pub le-same : (a b : Annotation) → le a b ≡ true → le b a ≡ true → a ≡ b
unfolding le
le-same a b p q = one-annotation a b
    (le-both (annotation_cmp a b) p (ap is_le (sym (total.antisymm b a)) ∙ q))

onset-of : (r s : Ordering) (x y : ℕ) → MatchOrdering r (x < y) (x ≡ y) (y < x) →
    is_le (ordering_then r s) ≡ true → x ≤ y
onset-of Less s x y h e = omega (arith, h)
onset-of Equal s x y h e = omega (arith, h)
onset-of Greater s x y h e = absurd (let f = e in cc)

pub le-onset : (a b : Annotation) → le a b ≡ true → a.onset ≤ b.onset
unfolding le
le-onset a b e = onset-of (nat_cmp a.onset b.onset) (ordering_then (option_cmp nat_cmp a.duration
    b.duration) (slice_cmp nat_cmp a.text b.text)) a.onset b.onset (ranks a.onset b.onset) e

pub is-true-or-false : (b : Bool) → (b ≡ true) ⊎ (b ≡ false)
is-true-or-false true = inl refl
is-true-or-false false = inr refl

if-true : {X : Type 0} (b : Bool) (x y : X) → b ≡ true → (if b then x else y) ≡ x
if-true true x y e = refl
if-true false x y e = absurd (let f = e in cc)

if-false : {X : Type 0} (b : Bool) (x y : X) → b ≡ false → (if b then x else y) ≡ y
if-false true x y e = absurd (let f = e in cc)
if-false false x y e = refl

pub before : (a b : Annotation) (bs : List Annotation) → le a b ≡ true →
    put_in_order a (b ∷ bs) ≡ a ∷ b ∷ bs
unfolding le
before a b bs e = if-true (le a b) (a ∷ b ∷ bs) (b ∷ put_in_order a bs) e

pub behind : (a b : Annotation) (bs : List Annotation) → le a b ≡ false →
    put_in_order a (b ∷ bs) ≡ b ∷ put_in_order a bs
unfolding le
behind a b bs e = if-false (le a b) (a ∷ b ∷ bs) (b ∷ put_in_order a bs) e

-- ---- two that are put in, in either order

not-both : (a b : Annotation) → le a b ≡ false → ¬ (le a b ≡ true)
not-both a b e q = let f = sym e ∙ q in cc

-- in front of the same
in-front : (a b : Annotation) (l : List Annotation) → put_in_order a l ≡ a ∷ l →
    put_in_order b l ≡ b ∷ l → put_in_order a (b ∷ l) ≡ put_in_order b (a ∷ l)
in-front a b l p q = elim (is-true-or-false (le a b)) [
  | inl e ↦ elim (is-true-or-false (le b a)) [
    | inl f ↦ ap (λ x. put_in_order x (b ∷ l)) (le-same a b e f)
        ∙ ap (λ x. put_in_order b (x ∷ l)) (sym (le-same a b e f))
    | inr f ↦ before a b l e ∙ ap (λ k. a ∷ k) (sym q) ∙ sym (behind b a l f)
  ]
  | inr e ↦ behind a b l e ∙ ap (λ k. b ∷ k) p ∙ sym (before b a l (le-total a b e))
]

pub put-both : (a b : Annotation) (l : List Annotation) →
    put_in_order a (put_in_order b l) ≡ put_in_order b (put_in_order a l)
put-both a b [] = in-front a b [] refl refl
put-both a b (c ∷ l) = elim (is-true-or-false (le a c)) [
  | inl p ↦ elim (is-true-or-false (le b c)) [
    | inl q ↦ ap (put_in_order a) (before b c l q)
        ∙ in-front a b (c ∷ l) (before a c l p) (before b c l q)
        ∙ ap (put_in_order b) (sym (before a c l p))
    | inr q ↦ one-behind a b c l p q
  ]
  | inr p ↦ elim (is-true-or-false (le b c)) [
    | inl q ↦ sym (one-behind b a c l q p)
    | inr q ↦ ap (put_in_order a) (behind b c l q) ∙ behind a c (put_in_order b l) p
        ∙ ap (λ k. c ∷ k) (put-both a b l)
        ∙ sym (behind b c (put_in_order a l) q) ∙ ap (put_in_order b) (sym (behind a c l p))
  ]
]
  where
    one-behind : (x y z : Annotation) (l : List Annotation) → le x z ≡ true → le y z ≡ false →
        put_in_order x (put_in_order y (z ∷ l)) ≡ put_in_order y (put_in_order x (z ∷ l))
    one-behind x y z l p q =
        let far : le y x ≡ false = elim (is-true-or-false (le y x)) [
          | inl f ↦ absurd (not-both y z q (le-trans y x z f p))
          | inr f ↦ f
        ] in
        ap (put_in_order x) (behind y z l q) ∙ before x z (put_in_order y l) p
        ∙ ap (λ k. x ∷ k) (sym (behind y z l q)) ∙ sym (behind y x (z ∷ l) far)
        ∙ ap (put_in_order y) (sym (before x z l p))

-- ---- the order doesn't matter

-- what is put in where another was
exchanged : (x : Annotation) (n : ℕ) (l : List Annotation) (d : Annotation) → n < length l →
    put_in_order (get_or l n d) (in_order (set l n x)) ≡ put_in_order x (in_order l)
exchanged x n [] d lt = absurd (omega (arith, lt))
exchanged x zero (y ∷ ys) d lt = put-both y x (in_order ys)
exchanged x (suc n) (y ∷ ys) d lt =
    put-both (get_or ys n d) y (in_order (set ys n x))
    ∙ ap (put_in_order y) (exchanged x n ys d (omega (arith, lt)))
    ∙ put-both y x (in_order ys)

swapped : (l : List Annotation) (d : Annotation) (i j : ℕ) → i < length l → j < length l →
    in_order (set (set l i (get_or l j d)) j (get_or l i d)) ≡ in_order l
swapped [] d i j p q = refl
swapped (x ∷ xs) d zero zero p q = refl
swapped (x ∷ xs) d zero (suc j) p q = exchanged x j xs d (omega (arith, q))
swapped (x ∷ xs) d (suc i) zero p q = exchanged x i xs d (omega (arith, p))
swapped (x ∷ xs) d (suc i) (suc j) p q =
    ap (put_in_order x) (swapped xs d i j (omega (arith, p)) (omega (arith, q)))

swap-same : (l : List Annotation) (i j : ℕ) → i < length l → j < length l →
    in_order (swap l i j) ≡ in_order l
swap-same [] i j p q = refl
swap-same (d ∷ ys) i j p q = swapped (d ∷ ys) d i j p q

-- annotations that are others in another order are the same in order
pub one-order : (all others : List Annotation) → IsPermutation all others →
    in_order others ≡ in_order all
one-order all others is =
    IsPermutation-keeps all (λ l. in_order l ≡ in_order all) refl
    (λ l i j p q h. swap-same l i j p q ∙ h) others is

-- ---- the same annotations

put-moves : (a : Annotation) (l : List Annotation) → IsPermutation (a ∷ l) (put_in_order a l)
put-moves a [] = IsPermutation-refl (a ∷ [])
put-moves a (b ∷ l) = elim (is-true-or-false (le a b)) [
  | inl e ↦ subst (IsPermutation (a ∷ b ∷ l)) (sym (before a b l e))
      (IsPermutation-refl (a ∷ b ∷ l))
  | inr e ↦ subst (IsPermutation (a ∷ b ∷ l)) (sym (behind a b l e))
      (IsPermutation-trans (a ∷ b ∷ l) (b ∷ a ∷ l) (b ∷ put_in_order a l)
      (IsPermutation-append (a ∷ b ∷ []) (b ∷ a ∷ []) l l (IsPermutation-to_front (a ∷ []) b)
      (IsPermutation-refl l))
      (IsPermutation-cons b (a ∷ l) (put_in_order a l) (put-moves a l)))
]

pub order-moves : (all : List Annotation) → IsPermutation all (in_order all)
order-moves [] = IsPermutation-refl []
order-moves (a ∷ all) =
    IsPermutation-trans (a ∷ all) (a ∷ in_order all) (put_in_order a (in_order all))
    (IsPermutation-cons a all (in_order all) (order-moves all)) (put-moves a (in_order all))

-- ---- in order

abbrev pub Rises : List Annotation → Type 0
Rises [] = Unit {0}
Rises (a ∷ []) = Unit {0}
Rises (a ∷ b ∷ l) = (le a b ≡ true) × Rises (b ∷ l)

lt-le : (r : Ordering) → is_lt (ordering_reverse r) ≡ false → is_le r ≡ true
lt-le Less e = refl
lt-le Equal e = refl
lt-le Greater e = absurd (let f = e in cc)

le-lt : (r : Ordering) → is_le r ≡ true → is_lt (ordering_reverse r) ≡ false
le-lt Less e = refl
le-lt Equal e = refl
le-lt Greater e = absurd (let f = e in cc)

not-lt : (a b : Annotation) → is_lt (annotation_cmp b a) ≡ false → le a b ≡ true
unfolding le
not-lt a b e = lt-le (annotation_cmp a b) (ap is_lt (sym (total.antisymm b a)) ∙ e)

le-not-lt : (a b : Annotation) → le a b ≡ true → is_lt (annotation_cmp b a) ≡ false
unfolding le
le-not-lt a b e = ap is_lt (total.antisymm b a) ∙ le-lt (annotation_cmp a b) e

suc-more : (k : ℕ) → suc k + 1 ≡ suc (k + 1)
suc-more k = omega arith

pub rises-sorted : (l : List Annotation) → AreInOrder l → Rises l
rises-sorted [] sorted = tt
rises-sorted (a ∷ []) sorted = tt
rises-sorted (a ∷ b ∷ l) sorted = (
  not-lt a b (sorted 0 a (omega arith) (omega arith)),
  rises-sorted (b ∷ l) (λ k d low more. subst (λ n. is_lt (annotation_cmp
      (get_or (a ∷ b ∷ l) n d) (get_or (b ∷ l) k d)) ≡ false) (suc-more k)
      (sorted (suc k) d (omega arith) (omega (arith, more)))),
)

pub sorted-rises : (l : List Annotation) → Rises l → AreInOrder l
sorted-rises [] rises k d low more = absurd (omega (arith, more))
sorted-rises (a ∷ []) rises k d low more = absurd (omega (arith, more))
sorted-rises (a ∷ b ∷ l) rises zero d low more = le-not-lt a b rises.0
sorted-rises (a ∷ b ∷ l) rises (suc k) d low more =
    subst (λ n. is_lt (annotation_cmp (get_or (a ∷ b ∷ l) n d) (get_or (b ∷ l) k d)) ≡ false)
    (sym (suc-more k)) (sorted-rises (b ∷ l) rises.1 k d (omega arith) (omega (arith, more)))

-- what is in order stays
pub order-stays : (l : List Annotation) → Rises l → in_order l ≡ l
order-stays [] rises = refl
order-stays (a ∷ []) rises = refl
order-stays (a ∷ b ∷ l) rises =
    ap (put_in_order a) (order-stays (b ∷ l) rises.1) ∙ before a b l rises.0

put-rises : (a : Annotation) (l : List Annotation) → Rises l → Rises (put_in_order a l)
put-rises a [] rises = tt
put-rises a (b ∷ []) rises = elim (is-true-or-false (le a b)) [
  | inl e ↦ subst Rises (sym (before a b [] e)) (e, tt)
  | inr e ↦ subst Rises (sym (behind a b [] e)) (le-total a b e, tt)
]
put-rises a (b ∷ c ∷ l) rises = elim (is-true-or-false (le a b)) [
  | inl e ↦ subst Rises (sym (before a b (c ∷ l) e)) (e, rises)
  | inr e ↦
      let later : Rises (put_in_order a (c ∷ l)) = put-rises a (c ∷ l) rises.1 in
      subst Rises (sym (behind a b (c ∷ l) e)) (elim (is-true-or-false (le a c)) [
        | inl f ↦ subst (λ k. Rises (b ∷ k)) (sym (before a c l f))
            (le-total a b e, subst Rises (before a c l f) later)
        | inr f ↦ subst (λ k. Rises (b ∷ k)) (sym (behind a c l f))
            (rises.0, subst Rises (behind a c l f) later)
      ])
]

order-rises : (all : List Annotation) → Rises (in_order all)
order-rises [] = tt
order-rises (a ∷ all) = put-rises a (in_order all) (order-rises all)

pub order-sorted : (all : List Annotation) → AreInOrder (in_order all)
order-sorted all = sorted-rises (in_order all) (order-rises all)

-- a list of the same annotations in order is the one
pub order-is : (all others : List Annotation) → IsPermutation all others → AreInOrder others →
    others ≡ in_order all
order-is all others is sorted =
    sym (order-stays others (rises-sorted others sorted)) ∙ one-order all others is

put-all : (P : Annotation → Type 0) (a : Annotation) (l : List Annotation) → P a →
    AllByRecursion P l → AllByRecursion P (put_in_order a l)
put-all P a [] one all = (one, tt)
put-all P a (b ∷ l) one all = elim (is-true-or-false (le a b)) [
  | inl e ↦ subst (AllByRecursion P) (sym (before a b l e)) (one, all)
  | inr e ↦ subst (AllByRecursion P) (sym (behind a b l e)) (all.0, put-all P a l one all.1)
]

pub order-all : (P : Annotation → Type 0) (l : List Annotation) → AllByRecursion P l →
    AllByRecursion P (in_order l)
order-all P [] all = tt
order-all P (a ∷ l) all = put-all P a (in_order l) all.0 (order-all P l all.1)

pub have-one-order : HaveOneOrder
have-one-order all = (
  order-moves all,
  order-sorted all,
  λ others is sorted. order-is all others is
      sorted,
)
