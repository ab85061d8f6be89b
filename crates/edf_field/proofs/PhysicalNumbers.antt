-- Physical values differ exactly where their numbers do.
use Rattle.std.proofs.Common.{◌≡◌, ◌≢◌, ℕ, ◌+◌, ◌-◌, ◌*◌, ◌^◌, ◌≤◌, ◌<◌, ◌==◌, List, get_or, Bool}
use Rattle.std.proofs.Common.{true, false, pow-add, arith, refl, sym, ap, ◌∙◌}
use Rattle.std.proofs.lemmas.Int.{ints}
use Rattle.std.proofs.Math.Nat.{eq_of_mul-eq-mul_right}
use Rattle.std.specs.Prelude.{ℤ, pos, neg_ℤ}
use Rattle.edf_field.specs.Number.{signed, fraction_len, unscaled, scaled, DifferAsNumbers}
use Rattle.edf_field.specs.Grammar.{IsPhysicalText}
use Rattle.edf_field.proofs.Decimals.{power}
use Rattle.edf_field.proofs.NumberTexts.{physical-from}

-- numbers with a sign stay equal multiplied by one number, and are equal where those products are
no-sign : (x y : ℕ) → x ≡ 0 → y ≡ 0 → (neg_ℤ (pos x) ≡ pos y) × (pos y ≡ neg_ℤ (pos x))
no-sign x y a b = (rw (a, b) refl, rw (a, b) refl)

none-grown : (m c : ℕ) → m ≡ 0 → m * c ≡ 0
none-grown m c e = rw e (omega arith)

grown : (p q : Bool) (m n c : ℕ) → signed p m ≡ signed q n → signed p (m * c) ≡ signed q (n * c)
grown true true m n c e = let s : m ≡ n = omega (arith, ints) in
    ap (λ (x : ℕ). neg_ℤ (pos (x * c))) s
grown false false m n c e = let s : m ≡ n = omega (arith, ints) in ap (λ (x : ℕ). pos (x * c)) s
grown true false m n c e =
    (no-sign (m * c) (n * c) (none-grown m c (omega (arith, ints)))
    (none-grown n c (omega (arith, ints)))).0
grown false true m n c e =
    (no-sign (n * c) (m * c) (none-grown n c (omega (arith, ints)))
    (none-grown m c (omega (arith, ints)))).1

none : (m c : ℕ) → 0 < c → m * c ≡ 0 → m ≡ 0
none m c some e = eq_of_mul-eq-mul_right c some m 0 (omega arith)

cut : (p q : Bool) (m n c : ℕ) → 0 < c → signed p (m * c) ≡ signed q (n * c) →
    signed p m ≡ signed q n
cut true true m n c some e = ap (λ (x : ℕ). neg_ℤ (pos x))
    (eq_of_mul-eq-mul_right c some m n (omega (arith, ints)))
cut false false m n c some e = ap pos (eq_of_mul-eq-mul_right c some m n (omega (arith, ints)))
cut true false m n c some e =
    (no-sign m n (none m c some (omega (arith, ints))) (none n c some (omega (arith, ints)))).0
cut false true m n c some e =
    (no-sign n m (none n c some (omega (arith, ints))) (none m c some (omega (arith, ints)))).1

-- a number of p decimal places, brought to `at` places, where another has q
cross : (a p q at : ℕ) → p ≤ at → a * 10 ^ q * 10 ^ at ≡ a * 10 ^ (at - p) * 10 ^ (p + q)
cross a p q at le =
    let e : at ≡ at - p + p = omega arith in
    let u : 10 ^ at ≡ 10 ^ (at - p) * 10 ^ p = ap (λ (n : ℕ). 10 ^ n) e ∙ pow-add 10 (at - p) p in
    let v = pow-add 10 p q in
    rw (u, v) (omega arith)

module _ (a b : List ℕ) (at : ℕ) (la : fraction_len a ≤ at) (lb : fraction_len b ≤ at) where
  left : signed (get_or a 0 0 == 45) (unscaled a * 10 ^ fraction_len b * 10 ^ at) ≡ signed
      (get_or a 0 0 == 45) (unscaled a * 10 ^ (at - fraction_len a) * 10
      ^ (fraction_len a + fraction_len b))
  left = ap (signed (get_or a 0 0 == 45))
      (cross (unscaled a) (fraction_len a) (fraction_len b) at la)

  right : signed (get_or b 0 0 == 45) (unscaled b * 10 ^ fraction_len a * 10 ^ at) ≡ signed
      (get_or b 0 0 == 45) (unscaled b * 10 ^ (at - fraction_len b) * 10
      ^ (fraction_len a + fraction_len b))
  right =
      let c : fraction_len b + fraction_len a ≡ fraction_len a + fraction_len b = omega arith in
      ap (signed (get_or b 0 0 == 45)) (cross (unscaled b) (fraction_len b) (fraction_len a) at lb
      ∙ ap (λ (n : ℕ). unscaled b * 10 ^ (at - fraction_len b) * 10 ^ n) c)

  same-to : scaled a (fraction_len b) ≡ scaled b (fraction_len a) →
      scaled a (at - fraction_len a) ≡ scaled b (at - fraction_len b)
  same-to e = cut (get_or a 0 0 == 45) (get_or b 0 0 == 45)
      (unscaled a * 10 ^ (at - fraction_len a)) (unscaled b * 10 ^ (at - fraction_len b))
      (10 ^ (fraction_len a + fraction_len b)) (power (fraction_len a + fraction_len b))
      (sym left ∙ grown (get_or a 0 0 == 45) (get_or b 0 0 == 45) (unscaled a * 10 ^ fraction_len b)
      (unscaled b * 10 ^ fraction_len a) (10 ^ at) e ∙ right)

  same-from : scaled a (at - fraction_len a) ≡ scaled b (at - fraction_len b) →
      scaled a (fraction_len b) ≡ scaled b (fraction_len a)
  same-from e = cut (get_or a 0 0 == 45) (get_or b 0 0 == 45) (unscaled a * 10 ^ fraction_len b)
      (unscaled b * 10 ^ fraction_len a) (10 ^ at) (power at)
      (left ∙ grown (get_or a 0 0 == 45) (get_or b 0 0 == 45)
      (unscaled a * 10 ^ (at - fraction_len a)) (unscaled b * 10 ^ (at - fraction_len b))
      (10 ^ (fraction_len a + fraction_len b)) e ∙ sym right)

pub physical-numbers : (a b : List ℕ) (at : ℕ) (x y : ℤ) → IsPhysicalText a at x →
    IsPhysicalText b at y → (DifferAsNumbers a b → x ≢ y) × (x ≢ y → DifferAsNumbers a b)
physical-numbers a b at x y p q =
    let s = physical-from a at x p in
    let t = physical-from b at y q in (
      λ d e. d (same-from a b at s.1 t.1 (sym s.2 ∙ e ∙ t.2)),
      λ d e. d (s.2 ∙ same-to a b at s.1 t.1 e ∙ sym t.2),
    )
