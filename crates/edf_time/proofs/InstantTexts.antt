-- The text of an instant names it, and it has no other.
use Rattle.std.proofs.Common.{◌≡◌, ℕ, zero, suc, ◌+◌, ◌/◌, ◌%◌, ◌^◌, ◌≤◌, ◌<◌, List, ◌∷◌, ◌++◌}
use Rattle.std.proofs.Common.{take, drop, arith, refl, sym, ap, ◌∙◌, pos}
use Rattle.edf_time.specs.Civil.{IsInstantText, day_of, second_of_day, two_digits, four_digits}
use Rattle.edf_time.specs.Decimal.{fraction_text, fraction_digits, fraction_value}
use Rattle.edf_time.proofs.Short.{fraction_value-text}
use Rattle.edf_time.proofs.Startdates.{instant-parts}
use Rattle.edf_time.proofs.OneDay.{in-bounds, SameDate, IsDay-same, one-number, one-date, SameClock}
use Rattle.edf_time.proofs.OneDay.{one-clock, one-second}
use Rattle.jiff_core.proofs.SignedLemmas.{signed_arith}

-- a part of a second has one text
fraction_text-injective : (a b : ℕ) → a < 10 ^ 9 → b < 10 ^ 9 → fraction_text a ≡ fraction_text b →
    a ≡ b
fraction_text-injective zero zero p q e = refl
fraction_text-injective zero (suc b) p q e = absurd cc
fraction_text-injective (suc a) zero p q e = absurd cc
fraction_text-injective (suc a) (suc b) p q e =
    let digits : fraction_digits 9 (suc a) ≡ fraction_digits 9 (suc b) = cc in
    sym (fraction_value-text 9 (suc a) p) ∙ ap (fraction_value (10 ^ 8)) digits
    ∙ fraction_value-text 9 (suc b) q

-- the text to the second, and what follows
abbrev pub stamp : ℕ → ℕ → ℕ → ℕ → ℕ → ℕ → List ℕ → List ℕ
stamp year month day hour minute second fraction =
    four_digits year ++ 45 ∷ two_digits month ++ 45 ∷ two_digits day ++ 84 ∷ two_digits hour
    ++ 58 ∷ two_digits minute ++ 58 ∷ two_digits second ++ fraction

-- its date, and what follows the T
abbrev date_front : ℕ → ℕ → ℕ → List ℕ
date_front year month day = four_digits year ++ 45 ∷ two_digits month ++ 45 ∷ two_digits day

abbrev clock_back : ℕ → ℕ → ℕ → List ℕ → List ℕ
clock_back hour minute second fraction = two_digits hour ++ 58 ∷ two_digits minute
    ++ 58 ∷ two_digits second ++ fraction

record SameBack (h i s : ℕ) (f : List ℕ) (hour minute second : ℕ) (fraction : List ℕ) : Type 0 where
  clock : SameClock h i s hour minute second
  fraction-is : f ≡ fraction

-- two numbers of two digits that are below 100
pair-injective : (a b : ℕ) → a < 100 → b < 100 → 48 + a / 10 ≡ 48 + b / 10 →
    48 + a % 10 ≡ 48 + b % 10 → a ≡ b
pair-injective a b a-low b-low tens units = omega arith

pub record AreLow (year month day hour minute second : ℕ) : Type 0 where
  pub year-low : year ≤ 9999
  pub month-low : month < 100
  pub day-low : day < 100
  pub hour-low : hour < 100
  pub minute-low : minute < 100
  pub second-low : second < 100

same-front : (y m d year month day : ℕ) → y ≤ 9999 → year ≤ 9999 → m < 100 → month < 100 → d < 100 →
    day < 100
    → date_front y m d ≡ date_front year month day → SameDate y m d year month day
same-front y m d year month day y-low year-low m-low month-low d-low day-low e =
    let centuries = pair-injective (y / 100) (year / 100) (omega arith) (omega arith) (cc) (cc) in
    let years = pair-injective (y % 100) (year % 100) (omega arith) (omega arith) (cc) (cc) in
    record {
      year-is = omega (arith, centuries, years);
      month-is = pair-injective m month m-low month-low (cc) (cc);
      day-is = pair-injective d day d-low day-low (cc) (cc);
    }

same-back : (h i s : ℕ) (f : List ℕ) (hour minute second : ℕ) (fraction : List ℕ) → h < 100 →
    hour < 100 → i < 100 → minute < 100 → s < 100 → second < 100
    → clock_back h i s f ≡ clock_back hour minute second fraction →
    SameBack h i s f hour minute second fraction
same-back h i s f hour minute second fraction h-low hour-low i-low minute-low s-low second-low e =
    record {
      clock = record {
        hour-is = pair-injective h hour h-low hour-low (cc) (cc);
        minute-is = pair-injective i minute i-low minute-low (cc) (cc);
        second-is = pair-injective s second s-low second-low (cc) (cc);
      };
      fraction-is = cc;
    }

pub are-low : (text : List ℕ) (n : ℕ) (t : IsInstantText text n) →
    AreLow t.year t.month t.day t.hour t.minute t.second
are-low text n t =
    let bounds = in-bounds t.year t.month t.day (pos (day_of n)) t.is_day in
    let clock = t.is_clock in
    record {
      year-low = t.to;
      month-low = omega (arith, bounds.month_to);
      day-low = omega (arith, bounds.day_to);
      hour-low = omega (arith, clock.in_day);
      minute-low = omega (arith, clock.in_hour);
      second-low = omega (arith, clock.in_minute);
    }

-- a text names one instant
pub one-instant : (text : List ℕ) (a b : ℕ) → IsInstantText text a → IsInstantText text b → a ≡ b
one-instant text a b p q =
    let v = are-low text a p in
    let w = are-low text b q in
    let e : stamp p.year p.month p.day p.hour p.minute p.second (fraction_text (a % 10 ^ 9)) ≡ stamp
    q.year q.month q.day q.hour q.minute q.second (fraction_text (b % 10 ^ 9)) = sym p.is_text
    ∙ q.is_text in
    let date = same-front p.year p.month p.day q.year q.month q.day v.year-low w.year-low
    v.month-low w.month-low v.day-low w.day-low (ap (take 10) e) in
    let back = same-back p.hour p.minute p.second (fraction_text (a % 10 ^ 9)) q.hour q.minute
    q.second (fraction_text (b % 10 ^ 9))
    v.hour-low w.hour-low v.minute-low w.minute-low v.second-low w.second-low (ap (drop 11) e) in
    let part = fraction_text-injective (a % 10 ^ 9) (b % 10 ^ 9) (omega arith) (omega arith)
    back.fraction-is in
    let days = one-number q.year q.month q.day (pos (day_of a)) (pos (day_of b))
    (IsDay-same p.year p.month p.day q.year q.month q.day (pos (day_of a)) date p.is_day)
    q.is_day in
    let day : day_of a ≡ day_of b = omega (arith, signed_arith, days) in
    let second : second_of_day a ≡ second_of_day b =
    one-second p.hour p.minute p.second q.hour q.minute q.second _ _ back.clock p.is_clock
    q.is_clock in
    omega (arith, part, day, second, instant-parts a, instant-parts b)

-- and an instant has one text
pub one-instant_text : (text other : List ℕ) (n : ℕ) → IsInstantText text n →
    IsInstantText other n → text ≡ other
one-instant_text text other n p q =
    let date = one-date p.year p.month p.day q.year q.month q.day (pos (day_of n)) p.is_day
    q.is_day in
    let clock = one-clock p.hour p.minute p.second q.hour q.minute q.second (second_of_day n)
    p.is_clock q.is_clock in
    p.is_text ∙ rw (
      date.year-is,
      date.month-is,
      date.day-is,
      clock.hour-is,
      clock.minute-is,
      clock.second-is,
    ) (sym q.is_text)
