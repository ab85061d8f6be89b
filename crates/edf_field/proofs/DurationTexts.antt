-- A duration is read exactly where the grammar has a decimal, and its nanoseconds are exact.
use Rattle.std.proofs.Common.{◌≡◌, ◌≢◌, ℕ, zero, suc, ◌+◌, ◌-◌, ◌*◌, ◌/◌, ◌^◌, ◌≤◌, ◌<◌, List, []}
use Rattle.std.proofs.Common.{◌∷◌, ◌++◌, length, take, drop, false, arith, refl, sym, ap, subst}
use Rattle.std.proofs.Common.{◌∙◌, append_assoc, mul-le-mul_right, Option, Some, None, inl, inr}
use Rattle.std.proofs.lemmas.Bool.{cases_lt}
use Rattle.std.proofs.lemmas.Bool.Decides.{nat_tests}
use Rattle.std.proofs.lemmas.List.{append-nil, take-append-drop, take_at, drop_at}
use Rattle.std.proofs.lemmas.List.Elements.{All-cons, All-nil, All-head, All-tail, All-replicate}
use Rattle.std.proofs.lemmas.Int.Digits.{digits_value-lt}
use Rattle.std.proofs.Math.Nat.{pow-succ', eq_of_mul-eq-mul_right}
use Rattle.std.specs.Prelude.{All, IsTrue, replicate, ◌==◌}
use Rattle.std.specs.List.{AllByRecursion}
use Rattle.std.specs.Option.{unwrap_or}
use Rattle.std.specs.Char.{is_ascii_digit, digit_value}
use Rattle.std.specs.Str.Parse.{AllDigits, digits_value}
use Rattle.edf_time.specs.Decimal.{IsDecimal, IsFine, IsSeconds, fraction_value, short}
use Rattle.edf_time.proofs.Cited.{IsSeconds-short}
use Rattle.edf_field.specs.Number.{AreSpaces, unpadded_len, IsDuration, IsDurationInRange}
use Rattle.edf_field.specs.Grammar.{AreDigits, point_text, IsDurationText}
use Rattle.edf_field.proofs.Grammar.{spaces-are}
use Rattle.edf_field.proofs.Durations.{digits-are, point, unpoint, shape, whole-digits}
use Rattle.edf_field.proofs.Durations.{fraction-digits}
use Rattle.edf_field.proofs.DecimalDigits.{digits-back}
use Rattle.edf_field.proofs.Decimals.{power, digit-is, value-cons, value-append}

abbrev AreZeros : List ℕ → Type 0
AreZeros ds = All (λ d. d ≡ 48) ds

places-none : (ds : List ℕ) → fraction_value 0 ds ≡ 0
places-none [] = refl
places-none (d ∷ ds) = omega (arith, places-none ds)

value-none : (ds : List ℕ) → AreZeros ds → digits_value 10 ds ≡ 0
value-none [] zeros = refl
value-none (d ∷ ds) zeros =
    let e : digit_value d ≡ 0 = ap digit_value (All-head (λ (b : ℕ). b ≡ 48) d ds zeros) in
    rw (value-cons d ds, e, value-none ds (All-tail (λ (b : ℕ). b ≡ 48) d ds zeros)) (omega arith)

-- what a digit counts that has j - 1 decimal places after it
abbrev unit_of : ℕ → ℕ
unit_of zero = 0
unit_of (suc j) = 10 ^ j

unit-next : (j : ℕ) → unit_of (suc j) / 10 ≡ unit_of j
unit-next zero = refl
unit-next (suc j) = omega (arith, pow-succ' 10 j)

step : (x p d l j : ℕ) → p * l ≡ d * j → (x * j + p) * (10 * l) ≡ (x * l + d) * (10 * j)
step x p d l j e = omega (arith, e)

-- what digits after a dot are worth, and what they write, where those past the last unit are zeros
worth : (j : ℕ) (ds : List ℕ) → AllDigits 10 ds → AreZeros (drop j ds) →
    fraction_value (unit_of j) ds * 10 ^ length ds ≡ digits_value 10 ds * 10 ^ j
worth zero ds all zeros = rw (places-none ds, value-none ds zeros) (omega arith)
worth (suc j) [] all zeros = omega arith
worth (suc j) (d ∷ ds) all zeros =
    let v : digit_value d ≡ d - 48 = omega (arith, digit-is d all.0) in
    let h = worth j ds all.1 zeros in
    let u : 10 ^ j / 10 ≡ unit_of j = unit-next j in
    rw (
      u,
      value-cons d ds,
      v,
      pow-succ' 10 (length ds),
      pow-succ' 10 j,
    ) (step (d - 48) (fraction_value (unit_of j) ds) (digits_value 10 ds)
    (10 ^ length ds) (10 ^ j) h)

zeros-are : (ds : List ℕ) → AllDigits 10 ds → digits_value 10 ds ≡ 0 → AreZeros ds
zeros-are [] all e = All-nil (λ (b : ℕ). b ≡ 48)
zeros-are (d ∷ ds) all e =
    let v = value-cons d ds in
    let none : digit_value d * 10 ^ length ds ≡ 0 * 10 ^ length ds = omega arith in
    let zero : digit_value d ≡ 0 = eq_of_mul-eq-mul_right (10 ^ length ds) (power (length ds))
    (digit_value d) 0 none in
    All-cons (λ (b : ℕ). b ≡ 48) d ds (omega (arith, digit-is d all.0, zero))
    (zeros-are ds all.1 (omega (arith, v, none)))

-- what is left of a product where a part of it is taken off
record Left (n off by rest : ℕ) : Type 0 where
  more : ℕ
  sum : n ≡ off + more
  left : more * by ≡ rest

taken : (n off by rest : ℕ) → 0 < by → n * by ≡ off * by + rest → Left n off by rest
taken n off by rest some e =
    elim (cases_lt n off) [
      | inl lt ↦ let up : suc n * by ≤ off * by = mul-le-mul_right by lt in
          absurd (omega (arith, up))
      | inr le ↦
          let s : n ≡ off + (n - off) = omega arith in
          let m : (off + (n - off)) * by ≡ off * by + rest = ap (λ (k : ℕ). k * by) (sym s) ∙ e in
          record { more = n - off; sum = s; left = omega (arith, m) }
    ]

digit-off : (n x d l j : ℕ) → n * (10 * l) ≡ (x * l + d) * (10 * j) → n * l ≡ x * j * l + d * j
digit-off n x d l j e = omega (arith, e)

-- a whole number of the last unit leaves only zeros past it
fine-where : (j : ℕ) (ds : List ℕ) (n : ℕ) → AllDigits 10 ds →
    n * 10 ^ length ds ≡ digits_value 10 ds * 10 ^ j → AreZeros (drop j ds)
fine-where zero ds zero all e = zeros-are ds all (omega (arith, e))
fine-where zero ds (suc n) all e = absurd (omega (arith, e, digits_value-lt 10 ds all))
fine-where (suc j) [] n all e = All-nil (λ (b : ℕ). b ≡ 48)
fine-where (suc j) (d ∷ ds) n all e =
    let x = digit_value d in
    let same : n * (10 * 10 ^ length ds) ≡ (x * 10 ^ length ds + digits_value 10 ds)
    * (10 * 10 ^ j) =
    ap (λ (k : ℕ). n * k) (sym (pow-succ' 10 (length ds))) ∙ e
    ∙ ap (λ (k : ℕ). k * 10 ^ suc j) (value-cons d ds)
    ∙ ap (λ (k : ℕ). (x * 10 ^ length ds + digits_value 10 ds) * k) (pow-succ' 10 j) in
    let t = taken n (x * 10 ^ j) (10 ^ length ds) (digits_value 10 ds * 10 ^ j) (power (length ds))
    (digit-off n x (digits_value 10 ds) (10 ^ length ds) (10 ^ j) same) in
    fine-where j ds t.more all.1 t.left

exact : (whole part : List ℕ) (nanos : ℕ) → AllDigits 10 part → IsFine part →
    nanos ≡ digits_value 10 whole * 10 ^ 9 + fraction_value (10 ^ 8) part
    → nanos * 10 ^ length part ≡ digits_value 10 (whole ++ part) * 10 ^ 9
exact whole part nanos all fine e =
    let w : fraction_value (10 ^ 8) part * 10 ^ length part ≡ digits_value 10 part * 10 ^ 9 =
    worth 9 part all fine in
    rw (e, value-append whole part) (omega (arith, w))

record Seconds (whole part : List ℕ) (nanos : ℕ) : Type 0 where
  fine : IsFine part
  value : nanos ≡ digits_value 10 whole * 10 ^ 9 + fraction_value (10 ^ 8) part

seconds : (whole part : List ℕ) (nanos : ℕ) → AllDigits 10 part →
    nanos * 10 ^ length part ≡ digits_value 10 (whole ++ part) * 10 ^ 9 → Seconds whole part nanos
seconds whole part nanos all e =
    let v = value-append whole part in
    let off : nanos * 10 ^ length part ≡ digits_value 10 whole * 10 ^ 9 * 10 ^ length
    part + digits_value 10 part * 10 ^ 9 = e ∙ ap (λ (k : ℕ). k * 10 ^ 9) v ∙ omega arith in
    let t = taken nanos (digits_value 10 whole * 10 ^ 9) (10 ^ length part)
    (digits_value 10 part * 10 ^ 9) (power (length part)) off in
    let fine : IsFine part = fine-where 9 part t.more all t.left in
    let w : fraction_value (10 ^ 8) part * 10 ^ length part ≡ digits_value 10 part * 10 ^ 9 =
    worth 9 part all fine in
    let same : t.more ≡ fraction_value (10 ^ 8) part =
    eq_of_mul-eq-mul_right (10 ^ length part) (power (length part)) t.more
    (fraction_value (10 ^ 8) part) (t.left ∙ sym w) in
    record { fine = fine; value = omega (arith, t.sum, same) }

whole-some : (text w f : List ℕ) → IsDecimal text w f → 0 < length w
whole-some text w [] d = d.0.0
whole-some text w (c ∷ f) d = d.0.0

after-dot : (f : List ℕ) → point f ≢ Some []
after-dot [] e = cc
after-dot (c ∷ f) e = cc

-- a decimal and spaces after it
of-seconds : (text rest : List ℕ) (nanos : ℕ) → IsSeconds text nanos → AreSpaces rest →
    IsDurationInRange nanos
    → IsDurationText (text ++ rest) nanos
of-seconds text rest nanos s blank lasts =
    let w : AreDigits s.whole = digits-are s.whole (whole-digits text s.whole s.fraction s.parts) in
    let f : AreDigits s.fraction =
    digits-are s.fraction (fraction-digits text s.whole s.fraction s.parts) in
    record {
      whole = s.whole;
      point = point s.fraction;
      number = record {
        some = whole-some text s.whole s.fraction s.parts;
        whole_digits = w;
        part_digits = subst AreDigits (sym (unpoint s.fraction)) f;
        spaces = length rest;
        spelling = ap (λ (x : List ℕ). x ++ rest) (shape text s.whole s.fraction s.parts)
            ∙ append_assoc s.whole (point_text (point s.fraction)) rest
            ∙ ap (λ (x : List ℕ). s.whole ++ (point_text (point s.fraction) ++ x))
            (spaces-are rest (length rest) refl blank);
      };
      after_dot = after-dot s.fraction;
      value = subst (λ (x : List ℕ). nanos * 10 ^ length x ≡ digits_value 10 (s.whole
          ++ x) * 10 ^ 9) (sym (unpoint s.fraction))
          (exact s.whole s.fraction nanos (fraction-digits text s.whole s.fraction s.parts) s.fine
          s.value);
      in_range = lasts;
    }

to : (text : List ℕ) (nanos : ℕ) → IsDuration text nanos → IsDurationText text nanos
to text nanos d =
    let at = unpadded_len text in
    subst (λ (x : List ℕ). IsDurationText x nanos) (take-append-drop at text)
    (of-seconds (take at text) (drop at text) nanos d.seconds d.spaces d.in_range)

abbrev NoSpaces : List ℕ → Type 0
NoSpaces text = AllByRecursion (λ b. (b == 32) ≡ false) text

no-space : (c : ℕ) → IsTrue (is_ascii_digit c) → (c == 32) ≡ false
no-space c h = grind (arith, nat_tests)

digits-in : (ds more : List ℕ) → AreDigits ds → NoSpaces more → NoSpaces (ds ++ more)
digits-in [] more all rest = rest
digits-in (d ∷ ds) more all rest = (no-space d all.0, digits-in ds more all.1 rest)

point-in : (p : Option (List ℕ)) → AreDigits (unwrap_or p []) → NoSpaces (point_text p)
point-in None all = tt
point-in (Some ds) all = (refl, subst NoSpaces (append-nil ds) (digits-in ds [] all tt))

front-end : (text : List ℕ) (n : ℕ) → NoSpaces text →
    unpadded_len (text ++ replicate n 32) ≡ length text
front-end [] zero all = refl
front-end [] (suc n) all = refl
front-end (b ∷ bs) n all = rw all.0 (omega (arith, front-end bs n all.1))

decimal : (whole : List ℕ) (p : Option (List ℕ)) → 0 < length whole → AreDigits whole →
    AreDigits (unwrap_or p []) → p ≢ Some []
    → IsDecimal (whole ++ point_text p) whole (unwrap_or p [])
decimal whole None some all part dot = ((some, digits-back whole all), append-nil whole)
decimal whole (Some []) some all part dot = absurd (dot refl)
decimal whole (Some (c ∷ cs)) some all part dot =
    ((some, digits-back whole all), (omega arith, digits-back (c ∷ cs) part), refl)

from : (text : List ℕ) (nanos : ℕ) → IsDurationText text nanos → IsDuration text nanos
from text nanos t =
    let part : List ℕ = unwrap_or t.point [] in
    let front : List ℕ = t.whole ++ point_text t.point in
    let tail : List ℕ = replicate t.number.spaces 32 in
    let e : text ≡ front ++ tail = t.number.spelling
    ∙ sym (append_assoc t.whole (point_text t.point) tail) in
    let none : NoSpaces front = digits-in t.whole (point_text t.point) t.number.whole_digits
    (point-in t.point t.number.part_digits) in
    let at : unpadded_len text ≡ length front = ap unpadded_len e
    ∙ front-end front t.number.spaces none in
    let first : take (unpadded_len text) text ≡ front = ap (λ (k : ℕ). take k text) at
    ∙ ap (λ (x : List ℕ). take (length front) x) e ∙ take_at front tail (length front) refl in
    let rest : drop (unpadded_len text) text ≡ tail = ap (λ (k : ℕ). drop k text) at
    ∙ ap (λ (x : List ℕ). drop (length front) x) e ∙ drop_at front tail (length front) refl in
    let s = seconds t.whole part nanos (digits-back part t.number.part_digits) t.value in
    record {
      seconds = subst (λ (x : List ℕ). IsSeconds x nanos) (sym first) (record {
        whole = t.whole;
        fraction = part;
        parts = decimal t.whole t.point t.number.some t.number.whole_digits t.number.part_digits
            t.after_dot;
        fine = s.fine;
        value = s.value;
      });
      spaces = subst AreSpaces (sym rest)
          (All-replicate (λ (b : ℕ). b ≡ 32) t.number.spaces 32 refl);
      in_range = t.in_range;
    }

pub duration-texts : (text : List ℕ) (nanos : ℕ) →
    (IsDuration text nanos → IsDurationText text nanos)
    × (IsDurationText text nanos → IsDuration text nanos)
duration-texts text nanos = (to text nanos, from text nanos)

pub short-filled : (nanos n : ℕ) → IsDurationInRange nanos → nanos < 10 ^ 73 →
    IsDurationText (short nanos ++ replicate n 32) nanos
short-filled nanos n lasts few = of-seconds (short nanos) (replicate n 32) nanos
    (IsSeconds-short nanos few) (All-replicate (λ (b : ℕ). b ≡ 32) n 32 refl) lasts
