-- Texts name civil days and clock readings.
use Rattle.std.specs.Prelude.{◌≡◌, ◌⊎◌, ℕ, ◌+◌, ◌-◌, ◌*◌, ◌/◌, ◌%◌, ◌^◌, ◌≤◌, List, [], ◌∷◌, ◌++◌}
use Rattle.std.specs.Prelude.{ℤ, pos, ◌+ℤ◌, ◌≤ℤ◌, ◌<ℤ◌, take, drop, codes, Option, Some, None}
use Rattle.jiff_core.specs.Calendar.{IsCivilDate, days_from_civil}
use Rattle.edf_time.specs.Decimal.{fraction_text}
use Rattle.edf_time.specs.declared.civil.StartFault.{StartFault}
use Rattle.edf_time.specs.declared.civil.StartFault.TheVariants.{Date, Time, Differs}

-- The window reaches from 1985-01-01 00:00:00 to the end of the year 2184, this many days.
abbrev pub window_days : ℕ
window_days = 73_049

-- The window has this many nanoseconds.
abbrev pub window : ℕ
window = window_days * 86_400 * 10 ^ 9

-- A startdate can name the years 1985 to 2084 by two digits: these are the window's first days.
abbrev pub two_digit_days : ℕ
two_digit_days = 36_525

abbrev pub two_digit_window : ℕ
two_digit_window = two_digit_days * 86_400 * 10 ^ 9

-- A moment, counted in nanoseconds from 1985-01-01 00:00:00, lies in the window.
pub record IsInWindow (moment : ℤ) : Type 0 where
  pub from : pos 0 ≤ℤ moment
  pub to : moment <ℤ pos window

-- An instant lies on this day, counted from 1985-01-01.
abbrev pub day_of : ℕ → ℕ
day_of instant = instant / (86_400 * 10 ^ 9)

-- An instant lies in this second of its day.
abbrev pub second_of_day : ℕ → ℕ
second_of_day instant = instant / 10 ^ 9 % 86_400

-- The calendar has the day, and it comes this many days after 1985-01-01.
pub record IsDay (year month day : ℕ) (days : ℤ) : Type 0 where
  pub exists : IsCivilDate (pos year) month day
  pub count : days_from_civil (pos year) month day ≡ pos 5_479 +ℤ days

-- The clock reading is the second of a day that has 86,400 seconds.
pub record IsClock (hour minute second seconds : ℕ) : Type 0 where
  pub in_day : hour ≤ 23
  pub in_hour : minute ≤ 59
  pub in_minute : second ≤ 59
  pub count : seconds ≡ hour * 3_600 + minute * 60 + second

-- A number below 100 has these two digits.
abbrev pub two_digits : ℕ → List ℕ
two_digits n = (48 + n / 10) ∷ (48 + n % 10) ∷ []

-- A number below 10,000 has these four digits.
abbrev pub four_digits : ℕ → List ℕ
four_digits n = two_digits (n / 100) ++ two_digits (n % 100)

-- The text is the day as dd.mm.yy, with two digits of the years 1985 to 2084.
pub record IsDateText (text : List ℕ) (days : ℕ) : Type 0 where
  pub year : ℕ
  pub month : ℕ
  pub day : ℕ
  pub is_text : text ≡ two_digits day ++ 46 ∷ two_digits month ++ 46 ∷ two_digits (year % 100)
  pub from : 1985 ≤ year
  pub to : year ≤ 2084
  pub is_day : IsDay year month day (pos days)

-- The text is dd.mm and the letters .yy, of a day and a month that some year has.
pub record IsYearlessText (text : List ℕ) : Type 0 where
  pub year : ℕ
  pub month : ℕ
  pub day : ℕ
  pub days : ℤ
  pub is_text : text ≡ two_digits day ++ 46 ∷ two_digits month ++ codes ".yy"
  pub is_day : IsDay year month day days

-- The text is dd.mm and the letters .yy, of a day of the years 2085 to 2184.
pub record IsLateDateText (text : List ℕ) (days : ℕ) : Type 0 where
  pub year : ℕ
  pub month : ℕ
  pub day : ℕ
  pub is_text : text ≡ two_digits day ++ 46 ∷ two_digits month ++ codes ".yy"
  pub from : 2085 ≤ year
  pub to : year ≤ 2184
  pub is_day : IsDay year month day (pos days)

-- The text is the startdate of a day: up to 2084 with two digits of the year, then with letters.
abbrev pub IsDateField : List ℕ → ℕ → Type 0
IsDateField text days = IsDateText text days ⊎ IsLateDateText text days

-- The startdate and the Startdate subfield name this day. The subfield is a date, or none for X;
-- only a date has the year of a startdate with the letters yy.
abbrev pub AreStartdates : List ℕ → Option ℤ → ℕ → Type 0
AreStartdates date None days = IsDateText date days
AreStartdates date (Some day) days = (day ≡ pos days) × IsDateField date days

-- The startdate has one of its forms, the letters yy only where the Startdate subfield is a date.
abbrev pub HasDateForm : List ℕ → Option ℤ → Type 0
HasDateForm date None = (days : ℕ) × IsDateText date days
HasDateForm date (Some day) = ((days : ℕ) × IsDateText date days) ⊎ IsYearlessText date

-- The text is the second of a day as hh.mm.ss.
pub record IsTimeText (text : List ℕ) (seconds : ℕ) : Type 0 where
  pub hour : ℕ
  pub minute : ℕ
  pub second : ℕ
  pub is_text : text ≡ two_digits hour ++ 46 ∷ two_digits minute ++ 46 ∷ two_digits second
  pub is_clock : IsClock hour minute second seconds

-- A startdate, a starttime and a Startdate subfield name this instant.
abbrev pub IsCivil : List ℕ → List ℕ → Option ℤ → ℕ → Type 0
IsCivil date time id nanos =
    (days : ℕ) × (seconds : ℕ) × AreStartdates date id days × IsTimeText time seconds
    × (nanos ≡ (days * 86_400 + seconds) * 10 ^ 9)

-- They name no instant: the startdate has none of its forms, else the starttime is no time, else
-- the Startdate subfield is not the startdate's day.
abbrev pub IsStartFault : List ℕ → List ℕ → Option ℤ → StartFault → Type 0
IsStartFault date time id Date = ¬ HasDateForm date id
IsStartFault date time id Time = HasDateForm date id × ((seconds : ℕ) → ¬ IsTimeText time seconds)
IsStartFault date time id Differs =
    HasDateForm date id × ((seconds : ℕ) × IsTimeText time seconds)
    × ((days : ℕ) → ¬ AreStartdates date id days)

-- A month has these three letters in dd-MMM-yyyy.
abbrev pub month_name : ℕ → List ℕ
month_name m = take 3 (drop (3 * (m - 1)) (codes "JANFEBMARAPRMAYJUNJULAUGSEPOCTNOVDEC"))

-- The text is the day as dd-MMM-yyyy, of the years 0000 to 9999.
pub record IsIdDate (text : List ℕ) (days : ℤ) : Type 0 where
  pub year : ℕ
  pub month : ℕ
  pub day : ℕ
  pub is_text : text ≡ two_digits day ++ 45 ∷ month_name month ++ 45 ∷ four_digits year
  pub to : year ≤ 9999
  pub is_day : IsDay year month day days

-- The text is the instant as yyyy-mm-ddThh:mm:ss, then the decimals of its second, if any.
pub record IsInstantText (text : List ℕ) (instant : ℕ) : Type 0 where
  pub year : ℕ
  pub month : ℕ
  pub day : ℕ
  pub hour : ℕ
  pub minute : ℕ
  pub second : ℕ
  pub is_text : text ≡ four_digits year ++ 45 ∷ two_digits month ++ 45 ∷ two_digits day
      ++ 84 ∷ two_digits hour ++ 58 ∷ two_digits minute ++ 58 ∷ two_digits second
      ++ fraction_text (instant % 10 ^ 9)
  pub to : year ≤ 9999
  pub is_day : IsDay year month day (pos (day_of instant))
  pub is_clock : IsClock hour minute second (second_of_day instant)

-- The byte is printable and no space.
abbrev pub IsVisible : ℕ → Type 0
IsVisible b = (33 ≤ b) × (b ≤ 126)
