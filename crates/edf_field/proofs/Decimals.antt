-- The numbers that digits write in a row.
use Rattle.std.proofs.Common.{◌≡◌, ℕ, zero, suc, ◌+◌, ◌-◌, ◌*◌, ◌^◌, ◌<◌, List, [], ◌∷◌, ◌++◌}
use Rattle.std.proofs.Common.{length, pow-add, arith, refl, ap, ◌∙◌}
use Rattle.std.proofs.lemmas.Bool.Decides.{nat_tests}
use Rattle.std.proofs.lemmas.List.{length-append, length-replicate}
use Rattle.std.proofs.Math.Nat.{pow-succ', one-le-pow}
use Rattle.std.specs.Prelude.{replicate}
use Rattle.std.specs.Char.{digit_value}
use Rattle.std.specs.Str.Parse.{digits_value, digits_value_after}
use Rattle.edf_field.specs.Grammar.{filled}

pub power : (n : ℕ) → 0 < 10 ^ n
power n = let ten : 0 < 10 = omega arith in one-le-pow n 10 ten

pub digit-is : (d : ℕ) → digit_value d < 10 → digit_value d + 48 ≡ d
digit-is d h = grind (arith, nat_tests)

after-is : (n : ℕ) (ds : List ℕ) →
    digits_value_after 10 n ds ≡ n * 10 ^ length ds + digits_value 10 ds
after-is n [] = omega arith
after-is n (d ∷ ds) =
    let a = after-is (n * 10 + digit_value d) ds in
    let b = after-is (0 * 10 + digit_value d) ds in
    let p = pow-succ' 10 (length ds) in
    rw p (omega (arith, a, b))

pub value-cons : (d : ℕ) (ds : List ℕ) →
    digits_value 10 (d ∷ ds) ≡ digit_value d * 10 ^ length ds + digits_value 10 ds
value-cons d ds = omega (arith, after-is (0 * 10 + digit_value d) ds)

pub value-append : (ds es : List ℕ) →
    digits_value 10 (ds ++ es) ≡ digits_value 10 ds * 10 ^ length es + digits_value 10 es
value-append [] es = omega arith
value-append (d ∷ ds) es =
    let a = value-cons d (ds ++ es) in
    let b = value-cons d ds in
    let c = value-append ds es in
    let l : 10 ^ length (ds ++ es) ≡ 10 ^ length ds * 10 ^ length es =
    ap (λ n. 10 ^ n) (length-append ds es) ∙ pow-add 10 (length ds) (length es) in
    rw (a, b, l, c) (omega arith)

pub value-zeros : (n : ℕ) → digits_value 10 (replicate n 48) ≡ 0
value-zeros zero = refl
value-zeros (suc n) = omega (arith, value-cons 48 (replicate n 48), value-zeros n)

pub value-filled : (whole part : List ℕ) (at : ℕ) →
    digits_value 10 (filled whole part at) ≡ (digits_value 10 whole * 10 ^ length
    part + digits_value 10 part) * 10 ^ (at - length part)
value-filled whole part at =
    let zeros : List ℕ = replicate (at - length part) 48 in
    let a = value-append whole (part ++ zeros) in
    let b = value-append part zeros in
    let z = value-zeros (at - length part) in
    let n : length zeros ≡ at - length part = length-replicate (at - length part) 48 in
    let l : 10 ^ length (part ++ zeros) ≡ 10 ^ length part * 10 ^ length zeros =
    ap (λ n. 10 ^ n) (length-append part zeros) ∙ pow-add 10 (length part) (length zeros) in
    rw (a, b, l, z, n) (omega arith)
