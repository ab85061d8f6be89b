-- The texts dd.mm.yy and hh.mm.ss.
use Rattle.std.proofs.Common.{◌≡◌, ℕ, ◌+◌, ◌/◌, ◌%◌, ◌≤◌, ◌<◌, List, [], ◌∷◌, ◌++◌, length, get_or}
use Rattle.std.proofs.Common.{arith, sym, ◌∙◌, ℤ, pos, Option, Some, None, inl, inr, ap, drop, take}
use Rattle.std.specs.Prelude.{MatchOption, codes}
use Rattle.std.proofs.lemmas.Slice.Eq.{text_from_reads}
use Rattle.std.proofs.lemmas.List.{get_or-drop, take_all, length-drop}
use Rattle.edf_time.specs.Civil.{IsDay, IsDateText, IsYearlessText, IsLateDateText, IsDateField}
use Rattle.edf_time.specs.Civil.{IsTimeText, two_digit_days, window_days, two_digits}
use Rattle.edf_time.proofs.Days.{number-in-window, number-late}
use Rattle.edf_time.proofs.OneDay.{in-bounds, IsDay-same, one-number, one-date, one-clock}
use Rattle.edf_time.proofs.OneDay.{one-second}
use Rattle.jiff_core.proofs.SignedLemmas.{signed_arith}

-- three numbers of two digits, with dots between them
abbrev pub dotted : ℕ → ℕ → ℕ → List ℕ
dotted a b c = two_digits a ++ 46 ∷ two_digits b ++ 46 ∷ two_digits c

pub record SameThree (a b c x y z : ℕ) : Type 0 where
  pub first : a ≡ x
  pub second : b ≡ y
  pub third : c ≡ z

pub same-dotted : (a b c x y z : ℕ) → a < 100 → b < 100 → c < 100 → x < 100 → y < 100 → z < 100 →
    dotted a b c ≡ dotted x y z → SameThree a b c x y z
same-dotted a b c x y z a-low b-low c-low x-low y-low z-low e =
    let a1 : 48 + a / 10 ≡ 48 + x / 10 = cc in
    let a2 : 48 + a % 10 ≡ 48 + x % 10 = cc in
    let b1 : 48 + b / 10 ≡ 48 + y / 10 = cc in
    let b2 : 48 + b % 10 ≡ 48 + y % 10 = cc in
    let c1 : 48 + c / 10 ≡ 48 + z / 10 = cc in
    let c2 : 48 + c % 10 ≡ 48 + z % 10 = cc in
    record { first = omega arith; second = omega arith; third = omega arith }

-- two numbers of two digits, with a dot after each, and the letters yy
abbrev pub lettered : ℕ → ℕ → List ℕ
lettered a b = two_digits a ++ 46 ∷ two_digits b ++ codes ".yy"

pub same-lettered : (a b x y : ℕ) → a < 100 → b < 100 → x < 100 → y < 100 →
    lettered a b ≡ lettered x y → (a ≡ x) × (b ≡ y)
same-lettered a b x y a-low b-low x-low y-low e =
    let a1 : 48 + a / 10 ≡ 48 + x / 10 = cc in
    let a2 : 48 + a % 10 ≡ 48 + x % 10 = cc in
    let b1 : 48 + b / 10 ≡ 48 + y / 10 = cc in
    let b2 : 48 + b % 10 ≡ 48 + y % 10 = cc in
    (omega arith, omega arith)

-- a letter is no digit
not-lettered : (a b c x y : ℕ) → c < 100 → ¬ (dotted a b c ≡ lettered x y)
not-lettered a b c x y low e =
    let letter : 48 + c % 10 ≡ 121 = cc in
    absurd (omega (arith, letter))

-- the eight bytes, read one by one
pub dotted-reads : (t : List ℕ) (a b c : ℕ) → length t ≡ 8 → get_or t 2 0 ≡ 46 → get_or t 5 0 ≡ 46
    → get_or t 0 0 ∷ get_or t 1 0 ∷ [] ≡ two_digits a →
    get_or t 3 0 ∷ get_or t 4 0 ∷ [] ≡ two_digits b →
    get_or t 6 0 ∷ get_or t 7 0 ∷ [] ≡ two_digits c → t ≡ dotted a b c
dotted-reads t a b c len p q first second third =
    text_from_reads t (dotted a b c) len (cc, (cc, (p, (cc, (cc, (q, (cc, (cc, tt))))))))

pub lettered-reads : (t : List ℕ) (a b : ℕ) → get_or t 2 0 ≡ 46 →
    get_or t 0 0 ∷ get_or t 1 0 ∷ [] ≡ two_digits a →
    get_or t 3 0 ∷ get_or t 4 0 ∷ [] ≡ two_digits b
    → length t ≡ 8 → take 3 (drop 5 t) ≡ codes ".yy" → t ≡ lettered a b
lettered-reads t a b p first second len end =
    let rest : drop 5 t ≡ codes ".yy" = sym (take_all 3 (drop 5 t) (omega (arith, length-drop 5 t)))
    ∙ end in
    let t5 : get_or t 5 0 ≡ 46 = sym (get_or-drop 5 t 0 0)
    ∙ ap (λ (k : List ℕ). get_or k 0 0) rest in
    let t6 : get_or t 6 0 ≡ 121 = sym (get_or-drop 5 t 1 0)
    ∙ ap (λ (k : List ℕ). get_or k 1 0) rest in
    let t7 : get_or t 7 0 ≡ 121 = sym (get_or-drop 5 t 2 0)
    ∙ ap (λ (k : List ℕ). get_or k 2 0) rest in
    text_from_reads t (lettered a b) len (cc, (cc, (p, (cc, (cc, (t5, (t6, (t7, tt))))))))

-- the text of these parts names the day of these parts alone
pub IsDay-text : (text : List ℕ) (year month day days : ℕ) → 1985 ≤ year → year ≤ 2084 →
    month < 100 → day < 100
    → text ≡ dotted day month (year % 100) → IsDateText text days → IsDay year month day (pos days)
IsDay-text text year month day days from to m-low d-low e t =
    let bounds = in-bounds t.year t.month t.day (pos days) t.is_day in
    let same = same-dotted t.day t.month (t.year % 100) day month (year % 100)
    (omega (arith, bounds.day_to)) (omega (arith, bounds.month_to)) (omega arith)
    d-low m-low (omega arith) (sym t.is_text ∙ e) in
    IsDay-same t.year t.month t.day year month day (pos days)
    (record {
      year-is = omega (arith, t.from, t.to, same.third);
      month-is = same.second;
      day-is =
          same.first;
    }) t.is_day

pub answers-date : (text : List ℕ) (year month day : ℕ) (r : Option ℕ) → 1985 ≤ year → year ≤ 2084 →
    month < 100 → day < 100
    → text ≡ dotted day month (year % 100)
    → MatchOption r ((days : ℤ) → ¬ IsDay year month day days)
    (λ days. IsDay year month day (pos days) × (days < two_digit_days))
    → MatchOption r ((days : ℕ) → ¬ IsDateText text days) (λ days. IsDateText text days
    × (days < two_digit_days))
answers-date text year month day None from to m-low d-low e none =
    λ days t. none (pos days) (IsDay-text text year month day days from to m-low d-low e t)
answers-date text year month day (Some days) from to m-low d-low e found = (
  record {
    year = year;
    month = month;
    day = day;
    is_text = e;
    from = from;
    to = to;
    is_day =
        found.0;
  },
  found.1,
)

pub date-in-digits : (text : List ℕ) (days : ℕ) → IsDateText text days → days < two_digit_days
date-in-digits text days t =
    let b = number-in-window t.year t.month t.day (pos days) t.from t.to t.is_day in
    omega (arith, signed_arith, b.1)

pub late-after-digits : (text : List ℕ) (days : ℕ) → IsLateDateText text days →
    two_digit_days ≤ days
late-after-digits text days t =
    let b = number-late t.year t.month t.day (pos days) t.from t.to t.is_day in
    omega (arith, signed_arith, b.0)

pub date-in-window : (text : List ℕ) (days : ℕ) → IsDateField text days → days < window_days
date-in-window text days (inl t) = omega (arith, date-in-digits text days t)
date-in-window text days (inr t) =
    let b = number-late t.year t.month t.day (pos days) t.from t.to t.is_day in
    omega (arith, signed_arith, b.1)

-- a text names one day, and a day has one text
pub one-date_day : (text : List ℕ) (a b : ℕ) → IsDateText text a → IsDateText text b → a ≡ b
one-date_day text a b p q =
    let bounds = in-bounds q.year q.month q.day (pos b) q.is_day in
    let e = one-number q.year q.month q.day (pos a) (pos b)
    (IsDay-text text q.year q.month q.day a q.from q.to (omega (arith, bounds.month_to))
    (omega (arith, bounds.day_to)) q.is_text p) q.is_day in
    omega (arith, signed_arith, e)

digits_text : (text other : List ℕ) (days : ℕ) → IsDateText text days → IsDateText other days →
    text ≡ other
digits_text text other days p q =
    let same = one-date p.year p.month p.day q.year q.month q.day (pos days) p.is_day q.is_day in
    p.is_text ∙ rw (same.year-is, same.month-is, same.day-is) (sym q.is_text)

late_text : (text other : List ℕ) (days : ℕ) → IsLateDateText text days →
    IsLateDateText other days → text ≡ other
late_text text other days p q =
    let same = one-date p.year p.month p.day q.year q.month q.day (pos days) p.is_day q.is_day in
    p.is_text ∙ rw (same.month-is, same.day-is) (sym q.is_text)

pub one-date_text : (text other : List ℕ) (days : ℕ) → IsDateField text days →
    IsDateField other days → text ≡ other
one-date_text text other days (inl p) (inl q) = digits_text text other days p q
one-date_text text other days (inl p) (inr q) =
    absurd (omega (arith, date-in-digits text days p, late-after-digits other days q))
one-date_text text other days (inr p) (inl q) =
    absurd (omega (arith, date-in-digits other days q, late-after-digits text days p))
one-date_text text other days (inr p) (inr q) = late_text text other days p q

-- digits are no letters
pub not-yearless : (text : List ℕ) (days : ℕ) → IsDateText text days → ¬ IsYearlessText text
not-yearless text days t y = not-lettered t.day t.month (t.year % 100) y.day y.month (omega arith)
    (sym t.is_text ∙ y.is_text)

pub late-yearless : (text : List ℕ) (days : ℕ) → IsLateDateText text days → IsYearlessText text
late-yearless text days t = record {
  year = t.year;
  month = t.month;
  day = t.day;
  days = pos days;
  is_text = t.is_text;
  is_day = t.is_day;
}

-- a text names one second of the day, and a second has one text
pub one-time_second : (text : List ℕ) (a b : ℕ) → IsTimeText text a → IsTimeText text b → a ≡ b
one-time_second text a b p q =
    let pc = p.is_clock in
    let qc = q.is_clock in
    let same = same-dotted p.hour p.minute p.second q.hour q.minute q.second
    (omega (arith, pc.in_day)) (omega (arith, pc.in_hour)) (omega (arith, pc.in_minute))
    (omega (arith, qc.in_day)) (omega (arith, qc.in_hour)) (omega (arith, qc.in_minute))
    (sym p.is_text ∙ q.is_text) in
    one-second p.hour p.minute p.second q.hour q.minute q.second a b
    (record { hour-is = same.first; minute-is = same.second; second-is = same.third }) pc qc

pub one-time_text : (text other : List ℕ) (seconds : ℕ) → IsTimeText text seconds →
    IsTimeText other seconds → text ≡ other
one-time_text text other seconds p q =
    let same = one-clock p.hour p.minute p.second q.hour q.minute q.second seconds p.is_clock
    q.is_clock in
    p.is_text ∙ rw (same.hour-is, same.minute-is, same.second-is) (sym q.is_text)

pub time-in-day : (text : List ℕ) (seconds : ℕ) → IsTimeText text seconds → seconds < 86_400
time-in-day text seconds t = omega (
  arith,
  t.is_clock.in_day,
  t.is_clock.in_hour,
  t.is_clock.in_minute,
  t.is_clock.count,
)
