-- The levels of some bytes, two by two.
use Rattle.std.proofs.Common.{◌≡◌, ◌<◌, ◌≤◌, ◌+◌, ◌*◌, ◌∙◌, ℕ, suc, zero, List, [], ◌∷◌, ◌++◌}
use Rattle.std.proofs.Common.{Some, ap, arith, get_or, length, max, min, refl, subst, sym}
use Rattle.std.proofs.Common.{take}
use Rattle.edf_picture.specs.Bands.{IsRange, level, levels}
use Rattle.edf_picture.proofs.Joined.{joined-ranges, one-range}

abbrev doubled : ℕ → ℕ
doubled zero = zero
doubled (suc n) = suc (suc (doubled n))

twice : (n : ℕ) → doubled n ≡ 2 * n
twice zero = refl
twice (suc n) = omega (arith, twice n)

pairs-more : (n : ℕ) (bytes : List ℕ) → suc (doubled n) < length bytes →
    levels (take (suc (suc (doubled n))) bytes) ≡ levels (take (doubled n) bytes)
    ++ (level (get_or bytes (doubled n) 0) (get_or bytes (suc (doubled n)) 0) ∷ [])
pairs-more n [] h = absurd (omega arith)
pairs-more n (a ∷ []) h = absurd (omega arith)
pairs-more zero (a ∷ b ∷ more) h = refl
pairs-more (suc n) (a ∷ b ∷ more) h = ap (λ (xs : List ℕ). level a b ∷ xs)
    (pairs-more n more (omega arith))

pairs-all : (n : ℕ) (bytes : List ℕ) → length bytes < 2 + doubled n → doubled n ≤ length bytes →
    levels (take (doubled n) bytes) ≡ levels bytes
pairs-all zero [] h k = refl
pairs-all zero (a ∷ []) h k = refl
pairs-all zero (a ∷ b ∷ more) h k = absurd (omega arith)
pairs-all (suc n) [] h k = absurd (omega arith)
pairs-all (suc n) (a ∷ []) h k = absurd (omega arith)
pairs-all (suc n) (a ∷ b ∷ more) h k = ap (λ (xs : List ℕ). level a b ∷ xs)
    (pairs-all n more (omega arith) (omega arith))

-- one more sample
pub levels-more : (n : ℕ) (bytes : List ℕ) → 2 * n + 1 < length bytes →
    levels (take (2 * (n + 1)) bytes) ≡ levels (take (2 * n) bytes)
    ++ (level (get_or bytes (2 * n) 0) (get_or bytes (2 * n + 1) 0) ∷ [])
levels-more n bytes h =
    let at : suc (doubled n) ≡ 2 * n + 1 = omega (arith, twice n) in
    let next : suc (suc (doubled n)) ≡ 2 * (n + 1) = omega (arith, twice n) in
    subst (λ (k : ℕ). levels (take (2 * (n + 1)) bytes) ≡ levels (take k bytes)
    ++ (level (get_or bytes k 0) (get_or bytes (2 * n + 1) 0) ∷ [])) (twice n)
    (subst (λ (k : ℕ). levels (take (2 * (n + 1)) bytes) ≡ levels (take (doubled n) bytes)
    ++ (level (get_or bytes (doubled n) 0) (get_or bytes k 0) ∷ [])) at
    (subst (λ (k : ℕ). levels (take k bytes) ≡ levels (take (doubled n) bytes)
    ++ (level (get_or bytes (doubled n) 0) (get_or bytes (suc (doubled n)) 0) ∷ [])) next
    (pairs-more n bytes (omega (arith, twice n)))))

-- a byte that is left has no level
pub levels-all : (n : ℕ) (bytes : List ℕ) → length bytes < 2 + 2 * n → 2 * n ≤ length bytes →
    levels (take (2 * n) bytes) ≡ levels bytes
levels-all n bytes h k = subst (λ (j : ℕ). levels (take j bytes) ≡ levels bytes) (twice n)
    (pairs-all n bytes (omega (arith, twice n)) (omega (arith, twice n)))

-- from the lowest and the greatest number on, or from a range
pub widened : (n : ℕ) (values more : List ℕ) (least greatest v : ℕ) → v ≤ 65535 →
    more ≡ values ++ (v ∷ []) → (n ≡ 0 → values ≡ []) →
    (n ≡ 0 → (least ≡ 65535) × (greatest ≡ 0)) →
    (0 < n → IsRange values (Some (record { least = least; greatest = greatest }))) →
    IsRange more (Some (record { least = min least v; greatest = max greatest v }))
widened zero values more least greatest v small is none starts range =
    let least-is : min least v ≡ v = omega (arith, (starts refl).0) in
    let greatest-is : max greatest v ≡ v = omega (arith, (starts refl).1) in
    let more-is : more ≡ v ∷ [] = is ∙ ap (λ (xs : List ℕ). xs ++ (v ∷ [])) (none refl) in
    rw (more-is, least-is, greatest-is) (one-range v)
widened (suc n) values more least greatest v small is none starts range =
    subst (λ (xs : List ℕ). IsRange xs (Some (record {
      least = min least v;
      greatest = max greatest v;
    }))) (sym is) (joined-ranges values (v ∷ []) (record { least = least; greatest = greatest })
    (record { least = v; greatest = v }) (range (omega arith)) (one-range v))

pub no-level : (bytes : List ℕ) → length bytes < 2 → levels bytes ≡ []
no-level [] h = refl
no-level (a ∷ []) h = refl
no-level (a ∷ b ∷ more) h = absurd (omega arith)
