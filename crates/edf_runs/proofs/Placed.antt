-- Samples that were placed: parts at their places, and all else flat.
use Rattle.std.proofs.Common.{◌≡◌, ℕ, zero, suc, ◌+◌, ◌-◌, ◌<◌, ◌≤◌, List, [], ◌∷◌, ◌++◌, length}
use Rattle.std.proofs.Common.{map}
use Rattle.std.proofs.Common.{Contains, Option, Some, None, refl, sym, ap, ◌∙◌, subst, arith, inl}
use Rattle.std.proofs.Common.{inr}
use Rattle.std.proofs.Common.{length-append, replicate, slice_get}
use Rattle.std.proofs.lemmas.Bool.{cases_lt}
use Rattle.std.proofs.lemmas.List.{length-replicate}
use Rattle.edf_runs.specs.Inside.Placing.{parts_from, placed}
use Rattle.edf_runs.specs.Inside.Stretching.{Rise}
use Rattle.edf_runs.proofs.Stretching.{Free}

get-past : {X : Type 0} (xs ys : List X) (n i : ℕ) → n ≡ length xs + i →
    slice_get (xs ++ ys) n ≡ slice_get ys i
get-past [] ys n i is = ap (slice_get ys) (is ∙ omega arith)
get-past (x ∷ xs) ys zero i is = absurd (omega (arith, is))
get-past (x ∷ xs) ys (suc n) i is = get-past xs ys n i (omega (arith, is))

get-same : {X : Type 0} (n i : ℕ) (y : X) (more : List X) → i < n →
    slice_get (replicate n y ++ more) i ≡ Some y
get-same zero i y more lt = absurd (omega (arith, lt))
get-same (suc n) zero y more lt = refl
get-same (suc n) (suc i) y more lt = get-same n i y more (omega (arith, lt))

module _ (g : ℕ) (part : ℕ → List ℕ → List ℕ) (flat : List ℕ) where
  pub length-parts : (s : List ℕ) (n m : ℕ) → length (parts_from part s n m) ≡ m
  length-parts s n zero = refl
  length-parts s n (suc m) = ap suc (length-parts s (n + 1) m)

  get-part : (s : List ℕ) (n m i : ℕ) (more : List (List ℕ)) → i < m →
      slice_get (parts_from part s n m ++ more) i ≡ Some (part (n + i) s)
  get-part s n zero i more lt = absurd (omega (arith, lt))
  get-part s n (suc m) zero more lt = ap (λ k. Some (part k s)) (omega arith)
  get-part s n (suc m) (suc i) more lt = get-part s (n + 1) m i more (omega (arith, lt))
      ∙ ap (λ k. Some (part k s)) (omega arith)

  -- behind the parts of the first
  later : (next : ℕ) (y : ℕ × List ℕ) (ys : List (ℕ × List ℕ)) (n i : ℕ) →
      n ≡ (y.0 - next) + (g + i) → slice_get (placed g part flat next (y ∷ ys)) n
      ≡ slice_get (placed g part flat (y.0 + g) ys) i
  later next y ys n i is =
      get-past (replicate (y.0 - next) flat)
      (parts_from part y.1 0 g ++ placed g part flat (y.0 + g) ys) n (g + i)
      (omega (arith, is, length-replicate (y.0 - next) flat))
      ∙ get-past (parts_from part y.1 0 g) (placed g part flat (y.0 + g) ys) (g + i) i
      (omega (arith, length-parts y.1 0 g))

  pub part-placed : (next : ℕ) (xs : List (ℕ × List ℕ)) (x : ℕ × List ℕ) (n : ℕ) →
      Rise g next (map (λ (y : ℕ × List ℕ). y.0) xs) → Contains xs x → n < g →
      slice_get (placed g part flat next xs) (x.0 + n - next) ≡ Some (part n x.1)
  part-placed next [] x n rise has lt = absurd (omega (arith, has.1))
  part-placed next (y ∷ ys) x n rise (zero, within, same) lt =
      subst (λ (z : ℕ × List ℕ). slice_get (placed g part flat next (y ∷ ys)) (z.0 + n - next)
      ≡ Some (part n z.1)) same
      (get-past (replicate (y.0 - next) flat)
      (parts_from part y.1 0 g ++ placed g part flat (y.0 + g) ys) (y.0 + n - next) n
      (omega (arith, rise.0, length-replicate (y.0 - next) flat))
      ∙ get-part y.1 0 g n (placed g part flat (y.0 + g) ys) lt
      ∙ ap (λ k. Some (part k y.1)) (omega arith))
  part-placed next (y ∷ ys) x n rise (suc k, within, same) lt =
      let has : Contains ys x = (k, omega (arith, within), same) in
      let low = at-least (y.0 + g) ys x rise.1 has in
      later next y ys (x.0 + n - next) (x.0 + n - (y.0 + g)) (omega (arith, low, rise.0))
      ∙ part-placed (y.0 + g) ys x n rise.1 has lt
    where
      at-least : (low : ℕ) (zs : List (ℕ × List ℕ)) (z : ℕ × List ℕ) →
          Rise g low (map (λ (y : ℕ × List ℕ). y.0) zs) → Contains zs z → low ≤ z.0
      at-least low [] z rise has = absurd (omega (arith, has.1))
      at-least low (y ∷ ys) z rise (zero, within, same) =
          subst (λ (x : ℕ × List ℕ). low ≤ x.0) same rise.0
      at-least low (y ∷ ys) z rise (suc k, within, same) =
          let more = at-least (y.0 + g) ys z rise.1 (k, omega (arith, within), same) in
          omega (arith, more, rise.0)

  some-is : (x y : List ℕ) → Some x ≡ Some y → y ≡ x
  some-is x y same = ap (λ (o : Option (List ℕ)). or-else o) (sym same)
    where
      or-else : Option (List ℕ) → List ℕ
      or-else None = x
      or-else (Some z) = z

  pub flat-placed : (next : ℕ) (xs : List (ℕ × List ℕ)) (at : ℕ) (s : List ℕ) → next ≤ at →
      Rise g next (map (λ (y : ℕ × List ℕ). y.0) xs) →
      Free g (map (λ (y : ℕ × List ℕ). y.0) xs) at →
      slice_get (placed g part flat next xs) (at - next) ≡ Some s → s ≡ flat
  flat-placed next [] at s from rise free is = absurd (let f = is in cc)
  flat-placed next (y ∷ ys) at s from rise free is = elim (cases_lt at y.0) [
    | inl lt ↦ some-is flat s (sym (get-same (y.0 - next) (at - next) flat
        (parts_from part y.1 0 g ++ placed g part flat (y.0 + g) ys) (omega (arith, lt, from)))
        ∙ is)
    | inr ge ↦
        let past = free.0 ge in
        flat-placed (y.0 + g) ys at s (omega (arith, past)) rise.1 free.1
        (sym (later next y ys (at - next) (at - (y.0 + g)) (omega (arith, past, rise.0))) ∙ is)
  ]

  pub length-placed : (next : ℕ) (y : ℕ × List ℕ) (ys : List (ℕ × List ℕ)) → next ≤ y.0 →
      next + length (placed g part flat next (y ∷ ys))
      ≡ (y.0 + g) + length (placed g part flat (y.0 + g) ys)
  length-placed next y ys le =
      omega (
        arith,
        le,
        length-append (replicate (y.0 - next) flat)
            (parts_from part y.1 0 g ++ placed g part flat (y.0 + g) ys),
        length-replicate (y.0 - next) flat,
        length-append (parts_from part y.1 0 g) (placed g part flat (y.0 + g) ys),
        length-parts y.1 0 g,
      )

  -- the last place has a part
  pub last-placed : (next : ℕ) (y : ℕ × List ℕ) (ys : List (ℕ × List ℕ)) → 1 ≤ g →
      Rise g next (map (λ (z : ℕ × List ℕ). z.0) (y ∷ ys)) →
      Free g (map (λ (z : ℕ × List ℕ). z.0) (y ∷ ys))
      (next + length (placed g part flat next (y ∷ ys)) - 1) → ⊥
  last-placed next y [] some rise free =
      let len = length-placed next y [] rise.0 in
      let past = free.0 (omega (arith, len, some)) in
      omega (arith, past, len, some)
  last-placed next y (z ∷ zs) some rise free =
      let len = length-placed next y (z ∷ zs) rise.0 in
      last-placed (y.0 + g) z zs some rise.1
      (subst (Free g (map (λ (x : ℕ × List ℕ). x.0) (z ∷ zs))) (ap (λ n. n - 1) len) free.1)

  -- ---- one place after another

  -- before the next data record's place a flat one comes
  pub flat-next : (next : ℕ) (x : ℕ × List ℕ) (xs : List (ℕ × List ℕ)) → next < x.0 →
      placed g part flat next (x ∷ xs) ≡ flat ∷ placed g part flat (next + 1) (x ∷ xs)
  flat-next next x xs lt =
      let one : x.0 - next ≡ suc (x.0 - (next + 1)) = omega (arith, lt) in
      ap (λ n. replicate n flat ++ (parts_from part x.1 0 g ++ placed g part flat (x.0 + g) xs)) one

  -- at its place its first part
  pub first-part : (next m : ℕ) (x : ℕ × List ℕ) (xs : List (ℕ × List ℕ)) → next ≡ x.0 →
      g ≡ suc m → placed g part flat next (x ∷ xs)
      ≡ part 0 x.1 ∷ (parts_from part x.1 1 m ++ placed g part flat (x.0 + g) xs)
  first-part next m x xs here some =
      let none : x.0 - next ≡ 0 = omega (arith, here) in
      ap (λ n. replicate n flat ++ (parts_from part x.1 0 g ++ placed g part flat (x.0 + g) xs))
      none
      ∙ ap (λ n. parts_from part x.1 0 n ++ placed g part flat (x.0 + g) xs) some
