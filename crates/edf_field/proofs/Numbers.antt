-- The numbers that digits write.
use Rattle.std.proofs.Common.{◌≡◌, ℕ, suc, ◌+◌, ◌-◌, ◌*◌, ◌^◌, ◌≤◌, ◌<◌, List, length, get_or, take}
use Rattle.std.proofs.Common.{add-one, pow-add, arith, refl}
use Rattle.std.proofs.lemmas.Bool.Decides.{nat_tests}
use Rattle.std.proofs.lemmas.Int.Digits.{digits_value_more}
use Rattle.std.proofs.lemmas.List.{get_or-take, length-take}
use Rattle.std.proofs.lemmas.List.Sums.{prefix_len_passes}
use Rattle.std.proofs.Math.Nat.{pow-succ', pow-le-pow_right, mul-le-mul_right}
use Rattle.std.specs.Prelude.{IsTrue}
use Rattle.std.specs.Char.{is_ascii_digit, digit_value}
use Rattle.std.specs.Str.Parse.{digits_value}
use Rattle.edf_field.specs.Number.{digits_len}

pub front-digits : (text : List ℕ) (k : ℕ) → k < length (take (digits_len text) text) →
    IsTrue (is_ascii_digit (get_or (take (digits_len text) text) k 0))
front-digits text k lt =
    let low : k < digits_len text = omega (arith, length-take (digits_len text) text) in
    rw (get_or-take (digits_len text) text k 0 low, prefix_len_passes is_ascii_digit text k 0 low)
    refl

digit-value : (b : ℕ) → IsTrue (is_ascii_digit b) → (digit_value b ≡ b - 48) × (b - 48 ≤ 9)
digit-value b h = (grind (arith, nat_tests), grind (arith, nat_tests))

pub number-fits : (n i : ℕ) → n < 10 ^ i → i < 8 → n * 10 + 9 < 10 ^ 8
number-fits n i lt low =
    let one = pow-succ' 10 i in
    let ten : 0 < 10 = omega arith in
    let up : suc i ≤ 8 = omega arith in
    let most : 10 ^ suc i ≤ 10 ^ 8 = pow-le-pow_right ten up in
    omega (arith, one, most)

pub number-more : (ds : List ℕ) (i n d : ℕ) → i < length ds →
    ((k : ℕ) → k < length ds → IsTrue (is_ascii_digit (get_or ds k 0))) → d ≡ get_or ds i 0 - 48
    → n ≡ digits_value 10 (take i ds) → n < 10 ^ i →
    (n * 10 + d ≡ digits_value 10 (take (i + 1) ds)) × (n * 10 + d < 10 ^ (i + 1))
number-more ds i n d lt digits is value low =
    let v = digit-value (get_or ds i 0) (digits i lt) in
    let more = digits_value_more 10 ds i lt in
    let one : 10 ^ (i + 1) ≡ 10 * 10 ^ i = rw add-one (pow-succ' 10 i) in
    (omega (arith, more, v.0), omega (arith, one, v.1))

-- whole digits and those of a fraction, as one number
pub joined-fits : (n m w f : ℕ) → n < 10 ^ w → m < 10 ^ f → w + f ≤ 8 → n * 10 ^ f + m < 10 ^ 8
joined-fits n m w f low small few =
    let up : suc n ≤ 10 ^ w = omega arith in
    let a : suc n * 10 ^ f ≤ 10 ^ w * 10 ^ f = mul-le-mul_right (10 ^ f) up in
    let b : 10 ^ (w + f) ≡ 10 ^ w * 10 ^ f = pow-add 10 w f in
    let ten : 0 < 10 = omega arith in
    let c : 10 ^ (w + f) ≤ 10 ^ 8 = pow-le-pow_right ten few in
    omega (arith, a, b, c)

pub pow-fits : (f : ℕ) → f ≤ 8 → 10 ^ f ≤ 10 ^ 8
pow-fits f few = let ten : 0 < 10 = omega arith in pow-le-pow_right ten few
