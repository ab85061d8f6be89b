-- The twelve names of months are three capitals each, and no two are the same.
use Rattle.std.proofs.Common.{◌≡◌, ℕ, ◌+◌, ◌≤◌, List, [], ◌∷◌, get_or, arith, refl, sym, ap, ◌∙◌}
use Rattle.std.proofs.Common.{rules, cond, eqb, below_more, below_none}
use Rattle.edf_time.specs.Civil.{month_name}

abbrev from_one : (ℕ → Type 0) → ℕ → Type 0
from_one P m = 1 ≤ m → P m

-- what holds of each month by its number
each-month : (P : ℕ → Type 0) → P 1 → P 2 → P 3 → P 4 → P 5 → P 6 → P 7 → P 8 → P 9 → P 10 → P 11 →
    P 12 → (m : ℕ) → 1 ≤ m → m ≤ 12 → P m
each-month P p1 p2 p3 p4 p5 p6 p7 p8 p9 p10 p11 p12 m from to =
    below_more (from_one P) 12 (below_more (from_one P) 11
    (below_more (from_one P) 10 (below_more (from_one P) 9
    (below_more (from_one P) 8 (below_more (from_one P) 7
    (below_more (from_one P) 6 (below_more (from_one P) 5
    (below_more (from_one P) 4 (below_more (from_one P) 3
    (below_more (from_one P) 2 (below_more (from_one P) 1
    (below_more (from_one P) 0 (below_none (from_one P)) (λ none. absurd (omega arith)))
    (λ _. p1)) (λ _. p2)) (λ _. p3)) (λ _. p4)) (λ _. p5)) (λ _. p6)) (λ _. p7)) (λ _. p8))
    (λ _. p9)) (λ _. p10)) (λ _. p11)) (λ _. p12)
    m (omega arith) from

-- the three letters one by one
abbrev pub letters : ℕ → List ℕ
letters m = get_or (month_name m) 0 0 ∷ get_or (month_name m) 1 0 ∷ get_or (month_name m) 2 0 ∷ []

pub month_name-letters : (m : ℕ) → 1 ≤ m → m ≤ 12 → month_name m ≡ letters m
month_name-letters = each-month (λ m. month_name m ≡ letters m) refl refl refl refl refl refl refl
    refl refl refl refl refl

-- the sum of the last two letters names the month
month_by_sum : ℕ → ℕ
month_by_sum n =
    cond (eqb n 143) 1 (cond (eqb n 135) 2
    (cond (eqb n 147) 3 (cond (eqb n 162) 4 (cond (eqb n 154) 5 (cond (eqb n 163) 6
    (cond (eqb n 161) 7 (cond (eqb n 156) 8
    (cond (eqb n 149) 9 (cond (eqb n 151) 10 (cond (eqb n 165) 11 12))))))))))

sum_of : ℕ → ℕ
unfolding month_by_sum
sum_of m = month_by_sum (get_or (month_name m) 1 0 + get_or (month_name m) 2 0)

sum_of-is : (m : ℕ) → 1 ≤ m → m ≤ 12 → sum_of m ≡ m
unfolding sum_of month_by_sum
sum_of-is = each-month (λ m. sum_of m ≡ m) refl refl refl refl refl refl refl refl refl refl refl
    refl

pub letters-injective : (m n : ℕ) → 1 ≤ m → m ≤ 12 → 1 ≤ n → n ≤ 12 →
    get_or (month_name m) 1 0 ≡ get_or (month_name n) 1 0
    → get_or (month_name m) 2 0 ≡ get_or (month_name n) 2 0 → m ≡ n
unfolding sum_of
letters-injective m n from to low high e f =
    let sums : get_or (month_name m) 1 0 + get_or (month_name m) 2 0 ≡ get_or (month_name n) 1
    0 + get_or (month_name n) 2 0 = omega (arith, e, f) in
    let same : sum_of m ≡ sum_of n = ap month_by_sum sums in
    sym (sum_of-is m from to) ∙ same ∙ sum_of-is n low high

-- a capital letter
abbrev pub IsCapital : ℕ → Type 0
IsCapital b = (65 ≤ b) × (b ≤ 90)

abbrev pub AreCapitals : ℕ → Type 0
AreCapitals m = IsCapital (get_or (month_name m) 0 0) × IsCapital (get_or (month_name m) 1 0)
    × IsCapital (get_or (month_name m) 2 0)

pub month_name-capitals : (m : ℕ) → 1 ≤ m → m ≤ 12 → AreCapitals m
month_name-capitals = each-month AreCapitals (search rules) (search rules) (search rules)
    (search rules) (search rules) (search rules) (search rules) (search rules) (search rules)
    (search rules) (search rules) (search rules)
