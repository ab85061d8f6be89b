-- What filters keep of lists, and of annotations in order.
use Rattle.std.proofs.Common.{◌≡◌, ℕ, List, [], ◌∷◌, All, refl, sym, ap, ◌∙◌, subst, arith}
use Rattle.std.proofs.Common.{inl, inr}
use Rattle.std.specs.Prelude.{Bool, true, false, cond, filter, count_by, IsPermutation}
use Rattle.std.specs.Ordering.{is_lt}
use Rattle.std.proofs.lemmas.List.Elements.{All-nil, All-cons, All-head, All-tail}
use Rattle.std.proofs.lemmas.List.Kept.{IsSortedBy-filter}
use Rattle.std.proofs.lemmas.List.Sums.{sum_by-cons}
use Rattle.std.proofs.lemmas.List.Sorted.{IsPermutation-refl, IsPermutation-trans, ranks_by}
use Rattle.std.proofs.lemmas.List.Sorted.{IsPermutation-cons, IsPermutation-append}
use Rattle.std.proofs.lemmas.List.Sorted.{IsPermutation-to_front}
use Rattle.edf_tal.specs.Tal.{Annotation}
use Rattle.edf_runs.specs.Order.{annotation_cmp, put_in_order, in_order}
use Rattle.edf_runs.proofs.Order.{total, le, before, behind, is-true-or-false, order-is}
use Rattle.edf_runs.proofs.Order.{order-sorted}

module _ {X : Type 0} (p : X → Bool) where
  -- all pass
  pub filter-all : (xs : List X) → All (λ x. p x ≡ true) xs → filter p xs ≡ xs
  filter-all [] all = refl
  filter-all (x ∷ xs) all =
      ap (λ b. cond b (x ∷ filter p xs) (filter p xs)) (All-head (λ y. p y ≡ true) x xs all)
      ∙ ap (λ l. x ∷ l) (filter-all xs (All-tail (λ y. p y ≡ true) x xs all))

  -- none passes
  pub filter-none : (xs : List X) → All (λ x. p x ≡ false) xs → filter p xs ≡ []
  filter-none [] all = refl
  filter-none (x ∷ xs) all =
      ap (λ b. cond b (x ∷ filter p xs) (filter p xs)) (All-head (λ y. p y ≡ false) x xs all)
      ∙ filter-none xs (All-tail (λ y. p y ≡ false) x xs all)

  -- a count of nothing
  pub none-counted : (xs : List X) → count_by p xs ≡ 0 → All (λ x. p x ≡ false) xs
  none-counted [] none = All-nil (λ x. p x ≡ false)
  none-counted (x ∷ xs) none = elim (is-true-or-false (p x)) [
    | inl e ↦ absurd (omega (
      arith,
      none,
      sum_by-cons (λ y. cond (p y) 1 0) x xs,
      ap {B = ℕ} (λ b. cond b 1 0) e,
    ))
    | inr e ↦ All-cons (λ y. p y ≡ false) x xs e
        (none-counted xs (omega (arith, none, sum_by-cons (λ y. cond (p y) 1 0) x xs)))
  ]

  -- two tests that agree at each of them count alike
  pub counted-alike : (q : X → Bool) (xs : List X) → All (λ x. p x ≡ q x) xs →
      count_by p xs ≡ count_by q xs
  counted-alike q [] all = refl
  counted-alike q (x ∷ xs) all = omega (
    arith,
    sum_by-cons (λ y. cond (p y) 1 0) x xs,
    sum_by-cons (λ y. cond (q y) 1 0) x xs,
    ap {B = ℕ} (λ b. cond b 1 0) (All-head (λ y. p y ≡ q y) x xs all),
    counted-alike q xs (All-tail (λ y. p y ≡ q y) x xs all),
  )

-- ---- a filter of annotations in order

moves-both : (b : Bool) (x : Annotation) (xs ys : List Annotation) → IsPermutation xs ys →
    IsPermutation (cond b (x ∷ xs) xs) (cond b (x ∷ ys) ys)
moves-both true x xs ys is = IsPermutation-cons x xs ys is
moves-both false x xs ys is = is

exchanged : (b c : Bool) (x y : Annotation) (l : List Annotation) →
    IsPermutation (cond b (x ∷ cond c (y ∷ l) l) (cond c (y ∷ l) l))
    (cond c (y ∷ cond b (x ∷ l) l) (cond b (x ∷ l) l))
exchanged true true x y l =
    IsPermutation-append (x ∷ y ∷ []) (y ∷ x ∷ []) l l (IsPermutation-to_front (x ∷ []) y)
    (IsPermutation-refl l)
exchanged true false x y l = IsPermutation-refl (x ∷ l)
exchanged false true x y l = IsPermutation-refl (y ∷ l)
exchanged false false x y l = IsPermutation-refl l

module _ (p : Annotation → Bool) where
  filter-put : (a : Annotation) (l : List Annotation) →
      IsPermutation (filter p (a ∷ l)) (filter p (put_in_order a l))
  filter-put a [] = IsPermutation-refl (filter p (a ∷ []))
  filter-put a (b ∷ l) = elim (is-true-or-false (le a b)) [
    | inl e ↦ subst (λ k. IsPermutation (filter p (a ∷ b ∷ l)) (filter p k))
        (sym (before a b l e)) (IsPermutation-refl (filter p (a ∷ b ∷ l)))
    | inr e ↦ subst (λ k. IsPermutation (filter p (a ∷ b ∷ l)) (filter p k))
        (sym (behind a b l e))
        (IsPermutation-trans (filter p (a ∷ b ∷ l)) (filter p (b ∷ a ∷ l))
        (filter p (b ∷ put_in_order a l)) (exchanged (p a) (p b) a b (filter p l))
        (moves-both (p b) b (filter p (a ∷ l)) (filter p (put_in_order a l)) (filter-put a l)))
  ]

  filter-moves : (l : List Annotation) → IsPermutation (filter p l) (filter p (in_order l))
  filter-moves [] = IsPermutation-refl []
  filter-moves (a ∷ l) =
      IsPermutation-trans (filter p (a ∷ l)) (filter p (a ∷ in_order l))
      (filter p (put_in_order a (in_order l)))
      (moves-both (p a) a (filter p l) (filter p (in_order l)) (filter-moves l))
      (filter-put a (in_order l))

  -- is the filter, in order
  pub filter-order : (l : List Annotation) → filter p (in_order l) ≡ in_order (filter p l)
  filter-order l =
      order-is (filter p l) (filter p (in_order l)) (filter-moves l)
      (IsSortedBy-filter (λ x y. is_lt (annotation_cmp x y)) (ranks_by total (λ x. x)) p
      (in_order l) (order-sorted l))
