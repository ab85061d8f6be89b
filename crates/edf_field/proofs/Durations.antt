-- A decimal in a field: its parts are the field's digits and fraction, so it has one value.
use Rattle.std.proofs.Common.{◌≡◌, ℕ, zero, suc, ◌+◌, ◌-◌, ◌*◌, ◌/◌, ◌^◌, ◌≤◌, ◌<◌, List, [], ◌∷◌}
use Rattle.std.proofs.Common.{◌++◌, ◌⊎◌, inl, inr}
use Rattle.std.proofs.Common.{length, take, drop, mul-le-mul_right, arith, refl, sym, ap, subst}
use Rattle.std.proofs.Common.{◌∙◌, append_assoc, length-append, Option, Some, None}
use Rattle.std.proofs.lemmas.Bool.Decides.{nat_tests}
use Rattle.std.proofs.lemmas.Int.Digits.{digits_value-lt}
use Rattle.std.proofs.lemmas.List.{append-nil, take-append-drop, length-take}
use Rattle.std.proofs.lemmas.List.Elements.{All-nil}
use Rattle.std.proofs.Math.Nat.{pow-le-pow_right}
use Rattle.std.specs.Prelude.{IsTrue, replicate}
use Rattle.std.specs.Option.{unwrap_or}
use Rattle.std.specs.Char.{is_ascii_digit, digit_value}
use Rattle.std.specs.Str.Parse.{AllDigits, digits_value}
use Rattle.edf_time.specs.Decimal.{IsDecimal, IsFine, IsSeconds, IsDecimalFault}
use Rattle.edf_time.specs.Decimal.{fraction_value as places}
use Rattle.edf_time.specs.declared.decimal.DecimalFault.{DecimalFault}
use Rattle.edf_time.specs.declared.decimal.DecimalFault.TheVariants.{Syntax, TooFine, TooLarge}
use Rattle.edf_field.specs.Number.{AreSpaces, digits, after_digits, fraction, unpadded_len}
use Rattle.edf_field.specs.Number.{IsDuration, IsDurationInRange, duration_of}
use Rattle.edf_field.specs.Grammar.{AreDigits, point_text}
use Rattle.edf_field.specs.declared.number.TheConstants.{MOST_DURATION}
use Rattle.edf_field.proofs.Grammar.{front, after, tail-off, fraction-is, spaces-are}

is-digit : (c : ℕ) → digit_value c < 10 → IsTrue (is_ascii_digit c)
is-digit c h = grind (arith, nat_tests)

pub digits-are : (ds : List ℕ) → AllDigits 10 ds → AreDigits ds
digits-are [] h = tt
digits-are (d ∷ ds) h = (is-digit d h.0, digits-are ds h.1)

abbrev pub point : List ℕ → Option (List ℕ)
point [] = None
point (d ∷ ds) = Some (d ∷ ds)

pub unpoint : (f : List ℕ) → unwrap_or (point f) [] ≡ f
unpoint [] = refl
unpoint (d ∷ ds) = refl

pub shape : (t w f : List ℕ) → IsDecimal t w f → t ≡ w ++ point_text (point f)
shape t w [] d = d.1 ∙ sym (append-nil w)
shape t w (c ∷ f) d = d.2

pub whole-digits : (t w f : List ℕ) → IsDecimal t w f → AllDigits 10 w
whole-digits t w [] d = d.0.1
whole-digits t w (c ∷ f) d = d.0.1

pub fraction-digits : (t w f : List ℕ) → IsDecimal t w f → AllDigits 10 f
fraction-digits t w [] d = tt
fraction-digits t w (c ∷ f) d = d.1.1

-- the parts of a decimal, read with the spaces that follow it
whole-of : (t w f rest : List ℕ) → IsDecimal t w f → AreSpaces rest → digits (t ++ rest) ≡ w
whole-of t w f rest d s =
    let n = length rest in
    let e : t ++ rest ≡ w ++ (point_text (point f) ++ replicate n 32) =
    ap (λ (l : List ℕ). l ++ rest) (shape t w f d) ∙ append_assoc w (point_text (point f)) rest
    ∙ ap (λ (l : List ℕ). w ++ (point_text (point f) ++ l)) (spaces-are rest n refl s) in
    ap digits e ∙ front w (point_text (point f)
    ++ replicate n 32) (digits-are w (whole-digits t w f d)) (tail-off (point f) n)

fraction-of : (t w f rest : List ℕ) → IsDecimal t w f → AreSpaces rest →
    fraction (after_digits (t ++ rest)) ≡ f
fraction-of t w f rest d s =
    let n = length rest in
    let e : t ++ rest ≡ w ++ (point_text (point f) ++ replicate n 32) =
    ap (λ (l : List ℕ). l ++ rest) (shape t w f d) ∙ append_assoc w (point_text (point f)) rest
    ∙ ap (λ (l : List ℕ). w ++ (point_text (point f) ++ l)) (spaces-are rest n refl s) in
    ap (λ (l : List ℕ). fraction (after_digits l)) e
    ∙ ap fraction (after w (point_text (point f)
    ++ replicate n 32) (digits-are w (whole-digits t w f d)) (tail-off (point f) n))
    ∙ fraction-is (point f) n (subst AreDigits (sym (unpoint f))
    (digits-are f (fraction-digits t w f d))) ∙ unpoint f

seconds-value : (t rest : List ℕ) (n : ℕ) → IsSeconds t n → AreSpaces rest →
    n ≡ duration_of (t ++ rest)
seconds-value t rest n s r =
    s.value ∙ sym (ap (λ x. digits_value 10 x * 10 ^ 9 + places (10 ^ 8)
    (fraction (after_digits (t ++ rest)))) (whole-of t s.whole s.fraction rest s.parts r)
    ∙ ap (λ x. digits_value 10 s.whole * 10 ^ 9 + places (10 ^ 8) x)
    (fraction-of t s.whole s.fraction rest s.parts r))

-- a field is the text before its first space, and the rest
pub field-value : (field : List ℕ) (at n : ℕ) → IsSeconds (take at field) n →
    AreSpaces (drop at field) → n ≡ duration_of field
field-value field at n s r = seconds-value (take at field) (drop at field) n s r
    ∙ ap duration_of (take-append-drop at field)

pub duration-value : (field : List ℕ) (n : ℕ) → IsDuration field n → n ≡ duration_of field
duration-value field n d = field-value field (unpadded_len field) n d.seconds d.spaces

-- a fraction counts less than a second
digit-small : (c : ℕ) → digit_value c < 10 → c - 48 ≤ 9
digit-small c h = grind (arith, nat_tests)

places-small : (unit : ℕ) (ds : List ℕ) → AllDigits 10 ds → places unit ds ≤ 10 * unit
places-small unit [] all = omega arith
places-small unit (d ∷ ds) all =
    let a : (d - 48) * unit ≤ 9 * unit = mul-le-mul_right unit (digit-small d all.0) in
    let b = places-small (unit / 10) ds all.1 in
    omega (arith, a, b)

small : (t : List ℕ) (n : ℕ) → length t ≤ 8 → IsSeconds t n → n ≤ MOST_DURATION
small t n few s =
    let w : digits_value 10 s.whole < 10 ^ length s.whole =
    digits_value-lt 10 s.whole (whole-digits t s.whole s.fraction s.parts) in
    let len : length s.whole ≤ 8 = omega (
      arith,
      ap length (shape t s.whole s.fraction s.parts),
      length-append s.whole (point_text (point s.fraction)),
    ) in
    let ten : 0 < 10 = omega arith in
    let most : 10 ^ length s.whole ≤ 10 ^ 8 = pow-le-pow_right ten len in
    let f : places (10 ^ 8) s.fraction ≤ 10 * 10 ^ 8 =
    places-small (10 ^ 8) s.fraction (fraction-digits t s.whole s.fraction s.parts) in
    omega (arith, w, most, f, s.value)

-- the range: above 0, and whether a number is in it
pub lasts-some : (nanos : ℕ) → IsDurationInRange nanos → 0 < nanos
lasts-some nanos lasts = lasts

pub lasts-or-not : (nanos : ℕ) → IsDurationInRange nanos ⊎ (¬ IsDurationInRange nanos)
lasts-or-not zero = inr (λ lasts. absurd (omega (arith, lasts)))
lasts-or-not (suc nanos) = inl (omega arith)

pub duration-bound : (field : List ℕ) (n : ℕ) → length field ≤ 8 → IsDuration field n →
    n ≤ MOST_DURATION
duration-bound field n few d = small (take (unpadded_len field) field) n
    (omega (arith, few, length-take (unpadded_len field) field)) d.seconds

none-read : (field : List ℕ) (e : DecimalFault) → length field ≤ 8 →
    IsDecimalFault (take (unpadded_len field) field) e → (n : ℕ) → ¬ IsDuration field n
none-read field Syntax few f n d = f d.seconds.whole d.seconds.fraction d.seconds.parts
none-read field TooFine few f n d =
    let t = take (unpadded_len field) field in
    let none = All-nil (λ (b : ℕ). b ≡ 32) in
    f.3 (subst IsFine (sym (fraction-of t d.seconds.whole d.seconds.fraction [] d.seconds.parts
    none) ∙ fraction-of t f.0 f.1 [] f.2 none) d.seconds.fine)
none-read field TooLarge few f n d =
    let t = take (unpadded_len field) field in
    let b : f.0 ≤ MOST_DURATION =
    small t f.0 (omega (arith, length-take (unpadded_len field) field))
    f.1 in
    omega (arith, f.2)

pub not-read : (field front : List ℕ) (at : ℕ) (e : DecimalFault) → length field ≤ 8 →
    at ≡ unpadded_len field → front ≡ take at field → IsDecimalFault front e → (n : ℕ) →
    ¬ IsDuration field n
not-read field front at e few is front-is fault =
    none-read field e few (subst (λ (t : List ℕ). IsDecimalFault t e) (front-is
    ∙ ap (λ (k : ℕ). take k field) is) fault)

pub not-lasting : (field front rest : List ℕ) (at other : ℕ) → at ≡ unpadded_len field →
    front ≡ take at field → rest ≡ drop at field → IsSeconds front other →
    ¬ IsDurationInRange other → AreSpaces rest → (n : ℕ) → ¬ IsDuration field n
not-lasting field front rest at other is front-is rest-is s past r n d =
    past (subst IsDurationInRange (duration-value field n d
    ∙ sym (field-value field at other (subst (λ (t : List ℕ). IsSeconds t other) front-is s)
    (subst AreSpaces rest-is r))) d.in_range)
