-- Digits in a row are those of their number, but for zeros at the front.
use Rattle.std.proofs.Common.{◌≡◌, ℕ, zero, suc, ◌+◌, ◌-◌, ◌*◌, ◌^◌, ◌≤◌, ◌<◌, List, [], ◌∷◌, ◌++◌}
use Rattle.std.proofs.Common.{length, mul-le-mul_right, arith, refl, sym, ap, ◌∙◌, inl, inr}
use Rattle.std.proofs.lemmas.Bool.{cases_lt}
use Rattle.std.proofs.lemmas.Bool.Decides.{nat_tests}
use Rattle.std.proofs.lemmas.Int.Digits.{digits_value-lt}
use Rattle.std.proofs.lemmas.List.{length-append, length-replicate}
use Rattle.std.specs.Prelude.{IsTrue, replicate}
use Rattle.std.specs.Char.{is_ascii_digit, digit_value}
use Rattle.std.specs.Str.Parse.{AllDigits, digits_value}
use Rattle.edf_field.specs.Grammar.{AreDigits, AreDecimalDigits, filled, widened}
use Rattle.edf_field.proofs.Decimals.{digit-is, value-cons, value-append, value-zeros}

digit-counts : (c : ℕ) → IsTrue (is_ascii_digit c) → digit_value c < 10
digit-counts c h = grind (arith, nat_tests)

pub digits-back : (ds : List ℕ) → AreDigits ds → AllDigits 10 ds
digits-back [] all = tt
digits-back (d ∷ ds) all = (digit-counts d all.0, digits-back ds all.1)

-- a digit and what the rest writes
apart : (x y a b by : ℕ) → x * by + a ≡ y * by + b → a < by → b < by → x ≡ y
apart x y a b by e low small =
    elim (cases_lt x y) [
      | inl lt ↦ let up : suc x * by ≤ y * by = mul-le-mul_right by lt in absurd (omega (arith, up))
      | inr le ↦ elim (cases_lt y x) [
        | inl lt ↦ let up : suc y * by ≤ x * by = mul-le-mul_right by lt in
            absurd (omega (arith, up))
        | inr ge ↦ omega arith
      ]
    ]

same-digit : (d e : ℕ) → digit_value d < 10 → digit_value e < 10 → digit_value d ≡ digit_value e →
    d ≡ e
same-digit d e p q s = omega (arith, digit-is d p, digit-is e q, s)

same-digits : (ds es : List ℕ) → length ds ≡ length es → AllDigits 10 ds → AllDigits 10 es →
    digits_value 10 ds ≡ digits_value 10 es → ds ≡ es
same-digits [] [] len p q s = refl
same-digits [] (e ∷ es) len p q s = absurd (omega arith)
same-digits (d ∷ ds) [] len p q s = absurd (omega arith)
same-digits (d ∷ ds) (e ∷ es) len p q s =
    let len' : length ds ≡ length es = omega arith in
    let by : 10 ^ length es ≡ 10 ^ length ds = ap (λ (n : ℕ). 10 ^ n) (sym len') in
    let v : digit_value d * 10 ^ length ds + digits_value 10 ds ≡ digit_value e * 10 ^ length
    ds + digits_value 10 es =
    sym (value-cons d ds) ∙ s ∙ value-cons e es
    ∙ ap (λ (n : ℕ). digit_value e * n + digits_value 10 es) by in
    let low = digits_value-lt 10 ds p.1 in
    let small : digits_value 10 es < 10 ^ length ds =
    omega (arith, digits_value-lt 10 es q.1, by) in
    let x : digit_value d ≡ digit_value e =
    apart (digit_value d) (digit_value e) (digits_value 10 ds) (digits_value 10 es)
    (10 ^ length ds) v low small in
    let rest : digits_value 10 ds ≡ digits_value 10 es =
    omega (arith, v, ap (λ (n : ℕ). n * 10 ^ length ds) x) in
    let first = same-digit d e p.0 q.0 x in
    let more = same-digits ds es len' p.1 q.1 rest in
    rw (first, more) refl

digits-append : (ds es : List ℕ) → AllDigits 10 ds → AllDigits 10 es → AllDigits 10 (ds ++ es)
digits-append [] es p q = q
digits-append (d ∷ ds) es p q = (p.0, digits-append ds es p.1 q)

zeros-digits : (n : ℕ) → AllDigits 10 (replicate n 48)
zeros-digits zero = tt
zeros-digits (suc n) = (omega arith, zeros-digits n)

module _ (whole part : List ℕ) (wide at : ℕ) (d : AreDecimalDigits whole part wide at) where
  widened-digits : AllDigits 10 (widened whole part wide at)
  widened-digits =
      digits-append (replicate (wide - length whole) 48) (filled whole part at)
      (zeros-digits (wide - length whole))
      (digits-append whole (part ++ replicate (at - length part) 48)
      (digits-back whole d.whole_digits)
      (digits-append part (replicate (at - length part) 48) (digits-back part d.part_digits)
      (zeros-digits (at - length part))))

  widened-length : length (widened whole part wide at) ≡ wide + at
  widened-length =
      let a : length (replicate {A = ℕ} (wide - length whole) 48) ≡ wide - length whole =
      length-replicate (wide - length whole) 48 in
      let b : length (replicate {A = ℕ} (at - length part) 48) ≡ at - length part =
      length-replicate (at - length part) 48 in
      simp length-append (omega (arith, a, b, d.whole_in, d.part_in))

widened-value : (whole part : List ℕ) (wide at : ℕ) →
    digits_value 10 (widened whole part wide at) ≡ digits_value 10 (filled whole part at)
widened-value whole part wide at =
    let a = value-append (replicate (wide - length whole) 48) (filled whole part at) in
    let z = value-zeros (wide - length whole) in
    rw (a, z) (omega arith)

pub decimal-digits : (whole part other rest : List ℕ) (wide at : ℕ) →
    AreDecimalDigits whole part wide at → AreDecimalDigits other rest wide at
    → (digits_value 10 (filled whole part at) ≡ digits_value 10 (filled other rest at) →
    widened whole part wide at ≡ widened other rest wide at)
    × (widened whole part wide at ≡ widened other rest wide at →
    digits_value 10 (filled whole part at) ≡ digits_value 10 (filled other rest at))
decimal-digits whole part other rest wide at p q = (
  λ e. same-digits (widened whole part wide at) (widened other rest wide at)
      (widened-length whole part wide at p ∙ sym (widened-length other rest wide at q))
      (widened-digits whole part wide at p) (widened-digits other rest wide at q)
      (widened-value whole part wide at ∙ e ∙ sym (widened-value other rest wide at)),
  λ e. sym (widened-value whole part wide at) ∙ ap (digits_value 10) e
      ∙ widened-value other rest wide at,
)
