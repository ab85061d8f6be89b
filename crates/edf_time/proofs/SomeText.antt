-- Each day of the window has parts, and so texts; each second of a day has one, and so each instant
-- of the window.
use Rattle.std.proofs.Common.{◌≡◌, ℕ, zero, suc, ◌+◌, ◌/◌, ◌%◌, ◌^◌, ◌≤◌, ◌<◌, inl, inr, List, ◌∷◌}
use Rattle.std.proofs.Common.{◌++◌, arith, refl, ap, ◌∙◌, pos}
use Rattle.std.proofs.lemmas.Bool.{cases_lt}
use Rattle.jiff_core.specs.Calendar.{day_count, days_in_month}
use Rattle.jiff_core.proofs.SignedLemmas.{signed_arith}
use Rattle.jiff_core.proofs.CalendarLemmas.{days_from_civil-day_count, days_in_month_bounds}
use Rattle.jiff_core.proofs.CalendarLemmas.{day_count-day, day_count-next_month}
use Rattle.jiff_core.proofs.CalendarLemmas.{day_count-next_year, day_count-last_of_year}
use Rattle.edf_time.specs.Civil.{IsDay, IsClock, IsDateText, IsLateDateText, IsDateField}
use Rattle.edf_time.specs.Civil.{IsTimeText, IsIdDate, IsInstantText, window, window_days}
use Rattle.edf_time.specs.Civil.{two_digit_days, day_of, second_of_day, two_digits, four_digits}
use Rattle.edf_time.specs.Civil.{month_name}
use Rattle.edf_time.specs.Decimal.{fraction_text}
use Rattle.edf_time.proofs.FieldTexts.{dotted, lettered}
use Rattle.edf_time.proofs.Days.{first_day, late_day, end_day, year-from, year-to}

-- a day of the calendar that is n days after 1985-01-01
record IsFound (n : ℕ) : Type 0 where
  year : ℕ
  month : ℕ
  day : ℕ
  is-day : IsDay year month day (pos n)

found : (n y m d : ℕ) → y ≤ 9999 → 1 ≤ m → m ≤ 12 → 1 ≤ d → d ≤ days_in_month (pos y) m →
    day_count (pos y) m d ≡ 4_377_432 + n → IsFound n
found n y m d low month-from month-to day-from day-to e = record {
  year = y;
  month = m;
  day = d;
  is-day = record {
    exists = (
      (omega (arith, signed_arith), omega (arith, signed_arith)),
      (month-from, month-to),
      (day-from, day-to),
    );
    count = omega (arith, signed_arith, days_from_civil-day_count (pos y) m d);
  };
}

count-is : (n y m d : ℕ) → IsDay y m d (pos n) → day_count (pos y) m d ≡ 4_377_432 + n
count-is n y m d is = omega (arith, signed_arith, is.count, days_from_civil-day_count (pos y) m d)

-- the day after the last of a year
next-year : (n y m d : ℕ) → y ≤ 2184 → m ≡ 12 → d ≡ days_in_month (pos y) m →
    day_count (pos y) m d ≡ 4_377_432 + n → IsFound (suc n)
next-year n y m d low month long e =
    let last : d ≡ 31 = long ∙ ap (λ x. days_in_month (pos y) x) month in
    let same : day_count (pos y) m d ≡ day_count (pos y) 12 31 = rw (month, last) refl in
    found (suc n) (y + 1) 1 1 (omega arith) (omega arith) (omega arith) (omega arith)
    (omega (arith, days_in_month_bounds (pos (y + 1)) 1))
    (omega (
      arith,
      e,
      same,
      day_count-last_of_year (pos y),
      day_count-next_year (pos y) (pos (y + 1)) (omega (arith, signed_arith))
          (omega (arith, signed_arith)),
    ))

-- the day after a day
next-day : (n y m d : ℕ) → y ≤ 2184 → IsDay y m d (pos n) → IsFound (suc n)
next-day n y m d low is =
    let e = count-is n y m d is in
    let month = is.exists.1 in
    let day = is.exists.2 in
    elim (cases_lt d (days_in_month (pos y) m)) [
      | inl lt ↦ found (suc n) y m (d + 1) (omega arith) month.0 month.1 (omega arith) (omega arith)
          (omega (arith, e, day_count-day (pos y) m d (d + 1) day.0 (omega arith)))
      | inr ge ↦ elim (cases_lt m 12) [
        | inl lt ↦ found (suc n) y (m + 1) 1 (omega arith) (omega arith) (omega arith) (omega arith)
            (omega (arith, days_in_month_bounds (pos y) (m + 1)))
            (omega (
              arith,
              e,
              day.1,
              day_count-next_month (pos y) m month.0,
              day_count-day (pos y) m d 1 day.0 (omega arith),
            ))
        | inr end ↦ next-year n y m d low (omega (arith, month.1)) (omega (arith, day.1)) e
      ]
    ]

record IsInYears (n : ℕ) (f : IsFound n) : Type 0 where
  from : 1985 ≤ f.year
  to : f.year ≤ 2184
  two_digits : n < two_digit_days → f.year ≤ 2084
  late : two_digit_days ≤ n → 2085 ≤ f.year

in-years : (n : ℕ) (f : IsFound n) → n < window_days → IsInYears n f
in-years n f lt =
    let e = count-is n f.year f.month f.day f.is-day in
    let exists = f.is-day.exists in
    record {
      from = omega (
        arith,
        signed_arith,
        year-from 1985 (pos f.year) f.month f.day exists (omega (arith, e, first_day)),
      );
      to = omega (
        arith,
        signed_arith,
        year-to 2184 2185 (pos f.year) f.month f.day refl exists (omega (arith, e, end_day)),
      );
      two_digits = λ below. omega (
        arith,
        signed_arith,
        year-to 2084 2085 (pos f.year) f.month f.day refl exists (omega (arith, e, late_day)),
      );
      late = λ above. omega (
        arith,
        signed_arith,
        year-from 2085 (pos f.year) f.month f.day exists (omega (arith, e, late_day)),
      );
    }

day-at : (n : ℕ) → n < window_days → IsFound n
day-at zero lt = found 0 1985 1 1 (omega arith) (omega arith) (omega arith) (omega arith)
    (omega (arith, days_in_month_bounds (pos 1985) 1)) (omega (arith, first_day))
day-at (suc n) lt =
    let f = day-at n (omega arith) in
    next-day n f.year f.month f.day (in-years n f (omega arith)).to f.is-day

pub digits-text : (days : ℕ) → days < two_digit_days → (text : List ℕ) × IsDateText text days
digits-text days below =
    let f = day-at days (omega arith) in
    let years = in-years days f (omega arith) in (
      dotted f.day f.month (f.year % 100),
      record {
        year = f.year;
        month = f.month;
        day = f.day;
        is_text = refl;
        from = years.from;
        to =
            years.two_digits below;
        is_day = f.is-day;
      },
    )

pub letters-text : (days : ℕ) → two_digit_days ≤ days → days < window_days → (text : List ℕ)
    × IsLateDateText text days
letters-text days above lt =
    let f = day-at days lt in
    let years = in-years days f lt in (
      lettered f.day f.month,
      record {
        year = f.year;
        month = f.month;
        day = f.day;
        is_text = refl;
        from = years.late above;
        to = years.to;
        is_day = f.is-day;
      },
    )

pub date-text : (days : ℕ) → days < window_days → (text : List ℕ) × IsDateField text days
date-text days lt =
    elim (cases_lt days two_digit_days) [
      | inl below ↦ let t = digits-text days below in (t.0, inl t.1)
      | inr above ↦ let t = letters-text days above lt in (t.0, inr t.1)
    ]

pub id_date-text : (days : ℕ) → days < window_days → (text : List ℕ) × IsIdDate text (pos days)
id_date-text days lt =
    let f = day-at days lt in (
      two_digits f.day ++ 45 ∷ month_name f.month ++ 45 ∷ four_digits f.year,
      record {
        year = f.year;
        month = f.month;
        day = f.day;
        is_text = refl;
        to =
            omega (arith, (in-years days f lt).to);
        is_day = f.is-day;
      },
    )

clock-at : (seconds : ℕ) → seconds < 86_400 →
    IsClock (seconds / 3_600) (seconds / 60 % 60) (seconds % 60) seconds
clock-at seconds lt = record {
  in_day = omega arith;
  in_hour = omega arith;
  in_minute = omega arith;
  count = omega arith;
}

pub time-text : (seconds : ℕ) → seconds < 86_400 → (text : List ℕ) × IsTimeText text seconds
time-text seconds lt = (
  two_digits (seconds / 3_600) ++ 46 ∷ two_digits (seconds / 60 % 60)
      ++ 46 ∷ two_digits (seconds % 60),
  record {
    hour = seconds / 3_600;
    minute = seconds / 60 % 60;
    second = seconds % 60;
    is_text =
        refl;
    is_clock = clock-at seconds lt;
  },
)

pub instant-text : (instant : ℕ) → instant < window → (text : List ℕ) × IsInstantText text instant
instant-text instant lt =
    let inside : day_of instant < window_days = omega arith in
    let f = day-at (day_of instant) inside in
    let seconds = second_of_day instant in (
      four_digits f.year ++ 45 ∷ two_digits f.month ++ 45 ∷ two_digits f.day
          ++ 84 ∷ two_digits (seconds / 3_600) ++ 58 ∷ two_digits (seconds / 60 % 60)
          ++ 58 ∷ two_digits (seconds % 60) ++ fraction_text (instant % 10 ^ 9),
      record {
        year = f.year;
        month = f.month;
        day = f.day;
        hour = seconds / 3_600;
        minute = seconds / 60 % 60;
        second = seconds % 60;
        is_text = refl;
        to = omega (arith, (in-years (day_of instant) f inside).to);
        is_day = f.is-day;
        is_clock = clock-at seconds (omega arith);
      },
    )
