-- The keys in order of their bytes are one list.
use Rattle.std.proofs.Common.{◌≡◌, ℕ, zero, suc, ◌<◌, ◌⊎◌, List, [], ◌∷◌, length, Contains, refl}
use Rattle.std.proofs.Common.{sym, subst, ◌∙◌, inl, inr, arith, slice_index_or, Less}
use Rattle.std.specs.List.{AllByRecursion}
use Rattle.std.specs.List.Sorted.{IsStrictlySortedBy}
use Rattle.std.proofs.lemmas.Cmp.{nat_list_cmp_total, tied_itself}
use Rattle.edf_header.specs.Key.{Key, key_bytes}
use Rattle.edf_holdings.specs.Keys.{key_cmp, KeyListIsUnique}

abbrev InKeys : Key → List Key → Type 0
InKeys k [] = ⊥
InKeys k (x ∷ xs) = (x ≡ k) ⊎ InKeys k xs

from_contains : (xs : List Key) (r : Key) → Contains xs r → InKeys r xs
from_contains xs r h = go xs h.0 h.1 h.2
  where
    go : (ys : List Key) (k : ℕ) → k < length ys → slice_index_or ys k r ≡ r → InKeys r ys
    go [] k l e = absurd (omega arith)
    go (y ∷ ys) zero l e = inl e
    go (y ∷ ys) (suc k) l e = inr (go ys k (omega arith) e)

to_contains : (xs : List Key) (r : Key) → InKeys r xs → Contains xs r
to_contains [] r h = absurd h
to_contains (x ∷ xs) r (inl p) = (0, omega arith, p)
to_contains (x ∷ xs) r (inr h) = let c = to_contains xs r h in (suc c.0, omega (arith, c.1), c.2)

below : (x k : Key) (xs : List Key) → AllByRecursion (λ y. key_cmp x y ≡ Less) xs → InKeys k xs →
    key_cmp x k ≡ Less
below x k [] a m = absurd m
below x k (y ∷ ys) a (inl p) = subst (λ (z : Key). key_cmp x z ≡ Less) p a.0
below x k (y ∷ ys) a (inr m) = below x k ys a.1 m

not_itself : (x : Key) → key_cmp x x ≡ Less → ⊥
not_itself x e = cc (sym (tied_itself nat_list_cmp_total (key_bytes x)) ∙ e)

not_both : (x y : Key) → key_cmp x y ≡ Less → key_cmp y x ≡ Less → ⊥
not_both x y a b = not_itself x (nat_list_cmp_total.trans (key_bytes x) (key_bytes y) (key_bytes x)
    a b)

same_keys : (xs ys : List Key) → IsStrictlySortedBy key_cmp xs → IsStrictlySortedBy key_cmp ys →
    ((k : Key) → InKeys k xs → InKeys k ys) → ((k : Key) → InKeys k ys → InKeys k xs) → xs ≡ ys
unfolding IsStrictlySortedBy
same_keys [] [] a b f g = refl
same_keys [] (y ∷ ys) a b f g = absurd (g y (inl refl))
same_keys (x ∷ xs) [] a b f g = absurd (f x (inl refl))
same_keys (x ∷ xs) (y ∷ ys) a b f g =
    elim (f x (inl refl)) [
      | inl p ↦ cc (p, same_keys xs ys a.1 b.1 (down p) (up p))
      | inr m ↦ elim (g y (inl refl)) [
        | inl q ↦ cc (q, same_keys xs ys a.1 b.1 (down (sym q)) (up (sym q)))
        | inr n ↦ absurd (not_both x y (below x y xs a.0 n) (below y x ys b.0 m))
      ]
    ]
  where
    down : y ≡ x → (k : Key) → InKeys k xs → InKeys k ys
    down p k h = elim (f k (inr h)) [
      | inr m ↦ m
      | inl q ↦
          absurd (not_itself x (subst (λ (z : Key). key_cmp x z ≡ Less) (sym q
          ∙ p) (below x k xs a.0 h)))
    ]

    up : y ≡ x → (k : Key) → InKeys k ys → InKeys k xs
    up p k h = elim (g k (inr h)) [
      | inr m ↦ m
      | inl q ↦
          absurd (not_itself y (subst (λ (z : Key). key_cmp y z ≡ Less) (sym q
          ∙ sym p) (below y k ys b.0 h)))
    ]

pub keys_are_one : KeyListIsUnique
keys_are_one h ks ls a b =
    same_keys ks ls a.rising b.rising
    (λ k m. from_contains ls k ((b.held k).1 ((a.held k).0 (to_contains ks k m))))
    (λ k m. from_contains ks k ((a.held k).1 ((b.held k).0 (to_contains ls k m))))
