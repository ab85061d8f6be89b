-- A rising list of the records whose intervals meet that of a start is the one of those near it.
use Rattle.std.proofs.Common.{◌≡◌, ℕ, ◌+◌, ◌⊎◌, Bool, true, nat_lt, List, [], ◌∷◌, sym, subst, inl}
use Rattle.std.proofs.Common.{inr, arith, filter}
use Rattle.std.proofs.lemmas.Bool.{cond_both, cond-true, cond-false, cases_Bool, and_parts}
use Rattle.std.proofs.lemmas.Bool.{and_from, ltb-true, lt-ltb}
use Rattle.edf_field.specs.Number.{duration_of}
use Rattle.edf_fragment.specs.Fragment.{DataRecord}
use Rattle.edf_holdings.specs.Clash.{intervals_overlap, overlapping}
use Rattle.edf_holdings.specs.Rising.{StartsAreSpaced}
use Rattle.edf_holdings.specs.Meaning.{OverlappingIsDetermined}
use Rattle.edf_holdings.proofs.Members.{In, apart_weaker, same_lists}
use Rattle.edf_holdings.proofs.Joining.{In-from_Contains, Contains-from_In}

apart_filter : (p : DataRecord → Bool) (d low : ℕ) (xs : List DataRecord) →
    StartsAreSpaced d low xs → StartsAreSpaced d low (filter p xs)
apart_filter p d low [] a = tt
apart_filter p d low (x ∷ xs) a =
    cond_both (p x) (x ∷ filter p xs) (filter p xs) (StartsAreSpaced d low)
    (λ _. (a.0, apart_filter p d (x.start + d) xs a.1))
    (λ _. apart_weaker d (x.start + d) low (filter p xs) (omega (arith, a.0))
    (apart_filter p d (x.start + d) xs a.1))

in_filter : (p : DataRecord → Bool) (y : DataRecord) (xs : List DataRecord) → In y (filter p xs) →
    In y xs × (p y ≡ true)
in_filter p y [] m = absurd m
in_filter p y (x ∷ xs) m =
    elim (cases_Bool (p x)) [
      | inl e ↦ elim (first e m) [
        | inl q ↦ (inl q, subst (λ (z : DataRecord). p z ≡ true) q e)
        | inr n ↦ let r = in_filter p y xs n in (inr r.0, r.1)
      ]
      | inr e ↦ let r = in_filter p y xs
          (subst (λ (l : List DataRecord). In y l) (cond-false _ _ _ e) m) in (inr r.0, r.1)
    ]
  where
    first : p x ≡ true → In y (filter p (x ∷ xs)) → (x ≡ y) ⊎ In y (filter p xs)
    first e n = subst (λ (l : List DataRecord). In y l)
        (cond-true (p x) (x ∷ filter p xs) (filter p xs) e) n

filter_has : (p : DataRecord → Bool) (y : DataRecord) (xs : List DataRecord) → In y xs →
    p y ≡ true → In y (filter p xs)
filter_has p y [] m e = absurd m
filter_has p y (x ∷ xs) (inl q) e =
    subst (λ (l : List DataRecord). In y l)
    (sym (cond-true (p x) (x ∷ filter p xs) (filter p xs)
    (subst (λ (z : DataRecord). p z ≡ true) (sym q) e))) (inl q)
filter_has p y (x ∷ xs) (inr m) e =
    cond_both (p x) (x ∷ filter p xs) (filter p xs) (In y) (λ _. inr (filter_has p y xs m e))
    (λ _. filter_has p y xs m e)

pub near_is_selected : OverlappingIsDetermined
near_is_selected cap h k start ys s a m =
    same_lists 1 0 0 ys (overlapping d start (h k)) (omega arith) a
    (apart_filter (intervals_overlap d start) 1 0 (h k) (s.rising k))
    (λ y n. let t = (m y).0 (Contains-from_In ys y n) in
    filter_has (intervals_overlap d start) y (h k) (In-from_Contains (h k) y t.0)
    (and_from (nat_lt start (y.start + d)) (nat_lt y.start (start + d)) (lt-ltb _ _ t.2)
    (lt-ltb _ _ t.1))) (λ y n. let t = in_filter (intervals_overlap d start) y (h k) n in let u =
    and_parts (nat_lt start (y.start + d)) (nat_lt y.start (start + d)) t.1 in
    In-from_Contains ys y ((m y).1 (
      Contains-from_In (h k) y t.0,
      ltb-true _ _ u.1,
      ltb-true _ _ u.0,
    )))
  where
    d : ℕ
    d = duration_of k.duration
