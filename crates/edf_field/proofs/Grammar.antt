-- A physical value spelled out is read as its digits.
use Rattle.std.proofs.Common.{◌≡◌, ℕ, zero, suc, ◌+◌, ◌*◌, ◌^◌, ◌==◌, List, [], ◌∷◌, ◌++◌, length}
use Rattle.std.proofs.Common.{get_or, Bool, true, false, arith, refl, sym, ap, subst, ◌∙◌, Option}
use Rattle.std.proofs.Common.{Some, None}
use Rattle.std.proofs.lemmas.Bool.Decides.{nat_tests}
use Rattle.std.proofs.lemmas.List.{take_at, drop_at, length-replicate, get_or-replicate, ext_get_or}
use Rattle.std.proofs.lemmas.List.Elements.{All-replicate}
use Rattle.std.specs.Prelude.{All, IsTrue, replicate, ◌||◌}
use Rattle.std.specs.Option.{unwrap_or}
use Rattle.std.specs.Char.{is_ascii_digit}
use Rattle.std.specs.Str.Parse.{digits_value}
use Rattle.edf_field.specs.Number.{after_digits, after_fraction, digits, digits_len, fraction}
use Rattle.edf_field.specs.Number.{unsigned}
use Rattle.edf_field.specs.Grammar.{AreDigits, IsSpelledAs, point_text, sign_text, spelled}

len-at : (ds rest : List ℕ) → AreDigits ds → is_ascii_digit (get_or rest 0 0) ≡ false →
    digits_len (ds ++ rest) ≡ length ds
len-at [] [] all off = refl
len-at [] (c ∷ cs) all off = rw off refl
len-at (d ∷ ds) rest all off = rw all.0 (omega (arith, len-at ds rest all.1 off))

-- the digits, and what is after them
pub front : (ds rest : List ℕ) → AreDigits ds → is_ascii_digit (get_or rest 0 0) ≡ false →
    digits (ds ++ rest) ≡ ds
front ds rest all off = rw (len-at ds rest all off) (take_at ds rest (length ds) refl)

pub after : (ds rest : List ℕ) → AreDigits ds → is_ascii_digit (get_or rest 0 0) ≡ false →
    after_digits (ds ++ rest) ≡ rest
after ds rest all off = rw (len-at ds rest all off) (drop_at ds rest (length ds) refl)

no-sign : (d : ℕ) → IsTrue (is_ascii_digit d) → ((d == 43) || (d == 45)) ≡ false
no-sign d h = grind (arith, nat_tests)

pub unsigned-is : (sign : Option Bool) (d : ℕ) (ds rest : List ℕ) → IsTrue (is_ascii_digit d) →
    unsigned (sign_text sign ++ (d ∷ ds ++ rest)) ≡ d ∷ ds ++ rest
unsigned-is None d ds rest h = rw (no-sign d h) refl
unsigned-is (Some true) d ds rest h = refl
unsigned-is (Some false) d ds rest h = refl

-- n spaces
pub spaces-are : (xs : List ℕ) (n : ℕ) → length xs ≡ n → All (λ x. x ≡ 32) xs → xs ≡ replicate n 32
spaces-are xs n len all =
    ext_get_or 0 xs (replicate n 32) (omega (arith, length-replicate {A = ℕ} n 32))
    (λ i lt. all i 0 lt ∙ sym (get_or-replicate n i 32 0 (omega arith)))

padding : (n : ℕ) → (is_ascii_digit (get_or (replicate n 32) 0 0) ≡ false)
    × ((get_or (replicate n 32) 0 0 == 46) ≡ false)
padding zero = (refl, refl)
padding (suc n) = (refl, refl)

pub tail-off : (point : Option (List ℕ)) (n : ℕ) →
    is_ascii_digit (get_or (point_text point ++ replicate n 32) 0 0) ≡ false
tail-off None n = (padding n).0
tail-off (Some ds) n = refl

pub fraction-is : (point : Option (List ℕ)) (n : ℕ) → AreDigits (unwrap_or point []) →
    fraction (point_text point ++ replicate n 32) ≡ unwrap_or point []
fraction-is None n all = rw (padding n).1 refl
fraction-is (Some ds) n all = front ds (replicate n 32) all (padding n).0

pub rest-is : (point : Option (List ℕ)) (n : ℕ) → AreDigits (unwrap_or point []) →
    after_fraction (point_text point ++ replicate n 32) ≡ replicate n 32
rest-is None n all = rw (padding n).1 refl
rest-is (Some ds) n all = after ds (replicate n 32) all (padding n).0

pub read-as : (sign : Option Bool) (d : ℕ) (ds : List ℕ) (point : Option (List ℕ)) (n : ℕ) →
    AreDigits (d ∷ ds) → AreDigits (unwrap_or point []) →
    IsSpelledAs (spelled sign (d ∷ ds) point n) (d ∷ ds) (unwrap_or point [])
read-as sign d ds point n all more =
    let rest : List ℕ = point_text point ++ replicate n 32 in
    let u : unsigned (spelled sign (d ∷ ds) point n) ≡ d ∷ ds ++ rest =
    unsigned-is sign d ds rest all.0 in
    let off = tail-off point n in
    let l : digits_len (d ∷ ds ++ rest) ≡ length (d ∷ ds) = len-at (d ∷ ds) rest all off in
    let b : after_digits (d ∷ ds ++ rest) ≡ rest = after (d ∷ ds) rest all off in
    let w : digits (d ∷ ds ++ rest) ≡ d ∷ ds = front (d ∷ ds) rest all off in
    let f : fraction (after_digits (unsigned (spelled sign (d ∷ ds) point n))) ≡ unwrap_or point
    [] = ap (λ x. fraction (after_digits x)) u ∙ ap fraction b ∙ fraction-is point n more in
    let r : after_fraction (after_digits (unsigned (spelled sign (d ∷ ds) point n))) ≡ replicate n
    32 = ap (λ x. after_fraction (after_digits x)) u ∙ ap after_fraction b
    ∙ rest-is point n more in
    record {
      is_physical = (
        omega (arith, ap digits_len u ∙ l),
        subst (All (λ x. x ≡ 32)) (sym r) (All-replicate (λ (x : ℕ). x ≡ 32) n 32 refl),
      );
      places_are = ap length f;
      size_is = ap (λ x. digits_value 10 x * 10 ^ length
          (fraction (after_digits (unsigned (spelled sign (d ∷ ds) point n)))) + digits_value 10
          (fraction (after_digits (unsigned (spelled sign (d ∷ ds) point n))))) (ap digits u ∙ w)
          ∙ ap (λ x. digits_value 10 (d ∷ ds) * 10 ^ length x + digits_value 10 x) f;
    }
