-- A number that is written in digits is read from them, whatever spaces follow.
use Rattle.std.proofs.Common.{◌≡◌, ℕ, zero, suc, ◌≤◌, List, [], ◌∷◌, ◌++◌, length, take, drop, true}
use Rattle.std.proofs.Common.{refl, sym, ap, ◌∙◌, subst, arith}
use Rattle.std.specs.Char.{is_ascii_digit}
use Rattle.std.specs.Str.Parse.{AllDigits, IsNumeral, digits_value}
use Rattle.std.proofs.lemmas.Bool.Decides.{nat_tests}
use Rattle.std.proofs.lemmas.List.{take_at, drop_at}
use Rattle.std.proofs.lemmas.List.Elements.{All-replicate}
use Rattle.edf_time.proofs.Cited.{digit_only}
use Rattle.edf_field.specs.Number.{AreSpaces, digits_len, digits, after_digits, IsNumber}
use Rattle.edf_field.specs.Text.{spaces}

digit-passes : (b : ℕ) → 48 ≤ b → b ≤ 57 → is_ascii_digit b ≡ true
digit-passes b low high = grind (arith, nat_tests)

no-digits : (m : ℕ) → digits_len (spaces m) ≡ 0
no-digits zero = refl
no-digits (suc m) = refl

digits-end : (ds : List ℕ) (m : ℕ) → AllDigits 10 ds → digits_len (ds ++ spaces m) ≡ length ds
digits-end [] m all = no-digits m
digits-end (d ∷ ds) m all =
    let b = digit_only d all.0 in
    let e : is_ascii_digit d ≡ true = digit-passes d b.0 b.1 in
    rw e (omega (arith, digits-end ds m all.1))

pub numeral-number : (ds : List ℕ) (m n : ℕ) → IsNumeral 10 ds → digits_value 10 ds ≡ n →
    IsNumber (ds ++ spaces m) n
numeral-number ds m n (some, all) value =
    let t : List ℕ = ds ++ spaces m in
    let end : digits_len t ≡ length ds = digits-end ds m all in
    let front : digits t ≡ ds = ap (λ (k : ℕ). take k t) end
    ∙ take_at ds (spaces m) (length ds) refl in
    let rest : after_digits t ≡ spaces m = ap (λ (k : ℕ). drop k t) end
    ∙ drop_at ds (spaces m) (length ds) refl in
    record {
      whole = (
        omega arith,
        subst AreSpaces (sym rest)
            (All-replicate (λ (b : ℕ). b ≡ 32) m 32 refl),
      );
      value = sym value ∙ ap (digits_value 10) (sym front);
    }
