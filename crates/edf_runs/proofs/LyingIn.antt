-- In which data record an instant lies.
use Rattle.std.proofs.Common.{◌≡◌, ℕ, zero, suc, ◌+◌, ◌<◌, ◌≤◌, List, [], ◌∷◌, length, get_or}
use Rattle.std.proofs.Common.{Some, None, sym, ap, arith, inl, inr}
use Rattle.std.specs.Prelude.{Bool, true, false, nat_le}
use Rattle.std.specs.List.Sorted.{IsPartitionPoint, IsNonDecreasingBy}
use Rattle.std.proofs.lemmas.Bool.{leb-true, le-leb, both_ways, cases_order}
use Rattle.std.proofs.lemmas.List.{get_or_default}
use Rattle.edf_runs.specs.Inside.Moving.{LiesIn}
use Rattle.edf_runs.specs.Inside.Stretching.{Rise}

-- starts rise
above : (d low : ℕ) (xs : List ℕ) (j : ℕ) (e : ℕ) → Rise d low xs → j < length xs →
    low ≤ get_or xs j e
above d low [] j e rise lt = absurd (omega (arith, lt))
above d low (x ∷ xs) zero e rise lt = rise.0
above d low (x ∷ xs) (suc j) e rise lt =
    let more = above d (x + d) xs j e rise.1 (omega (arith, lt)) in omega (arith, more, rise.0)

pub apart : (d low : ℕ) (xs : List ℕ) (i j e : ℕ) → Rise d low xs → i < j → j < length xs →
    get_or xs i e + d ≤ get_or xs j e
apart d low [] i j e rise less lt = absurd (omega (arith, lt))
apart d low (x ∷ xs) i zero e rise less lt = absurd (omega (arith, less))
apart d low (x ∷ xs) zero (suc j) e rise less lt =
    above d (x + d) xs j e rise.1 (omega (arith, lt))
apart d low (x ∷ xs) (suc i) (suc j) e rise less lt =
    apart d (x + d) xs i j e rise.1 (omega (arith, less)) (omega (arith, lt))

pub never-falls : (d low : ℕ) (xs : List ℕ) → Rise d low xs → IsNonDecreasingBy (λ (x : ℕ). x) xs
never-falls d low xs rise i j e le lt = elim (cases_order i j) [
  | inl same ↦ let f : get_or xs i e ≡ get_or xs j e = ap (λ k. get_or xs k e) same in
      omega (arith, f)
  | inr other ↦ elim other [
    | inl less ↦ let f = apart d low xs i j e rise less lt in omega (arith, f)
    | inr more ↦ absurd (omega (arith, more, le))
  ]
]

abbrev pub begun : ℕ → ℕ → Bool
begun instant s = nat_le s instant

module _ (d instant : ℕ) (starts : List ℕ) (n : ℕ)
    (point : IsPartitionPoint (λ (s : ℕ). begun instant s ≡ true)
    (λ (s : ℕ). begun instant s ≡ false) starts n) where
  -- those from the point on begin later
  later : (k e : ℕ) → n ≤ k → k < length starts → get_or starts k e ≤ instant → ⊥
  later k e from lt le = both_ways (begun instant (get_or starts k e)) (point.1 k e from lt)
      (le-leb (get_or starts k e) instant le)

  pub none-begun : n ≡ 0 → LiesIn d starts instant None
  none-begun none k e lt le = absurd (later k e (omega (arith, none)) lt le)

  pub in-last : (m s : ℕ) → n ≡ m + 1 → m < length starts → s ≡ get_or starts m s →
      instant < s + d → LiesIn d starts instant (Some s)
  in-last m s is lt at inside = (
    (m, lt, sym at),
    let by = leb-true (get_or starts m s) instant (point.0 m s (omega arith) (omega (arith, is))) in
        omega (arith, by, at),
    inside,
  )

  pub past-last : (m s : ℕ) → Rise d 0 starts → n ≡ m + 1 → m < length starts →
      s ≡ get_or starts m s → s + d ≤ instant → LiesIn d starts instant None
  past-last m s rise is within at past k e lt le = elim (cases_order k m) [
    | inl same ↦
        let f : get_or starts k e ≡ get_or starts m e = ap (λ i. get_or starts i e) same in
        let g = get_or_default starts m e s within in
        omega (arith, f, g, at, past)
    | inr other ↦ elim other [
      | inl less ↦
          let f = apart d 0 starts k m e rise less within in
          let g = get_or_default starts m e s within in
          omega (arith, f, g, at, past)
      | inr more ↦ absurd (later k e (omega (arith, is, more)) lt le)
    ]
  ]
