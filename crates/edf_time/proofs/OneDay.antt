-- Parts and number of a day are one to one, and so are a clock's reading and its second.
use Rattle.std.proofs.Common.{◌≡◌, ℕ, ◌≤◌, arith, sym, ◌∙◌, subst, ℤ, pos, ◌+ℤ◌}
use Rattle.jiff_core.specs.declared.civil.date.Date.{Date}
use Rattle.std.specs.Prelude.{◌-ℤ◌}
use Rattle.jiff_core.specs.Calendar.{IsCivilDate, days_from_civil}
use Rattle.jiff_core.specs.Date.{epoch_day}
use Rattle.jiff_core.proofs.SignedLemmas.{signed_arith}
use Rattle.jiff_core.proofs.CalendarLemmas.{days_in_month_bounds}
use Rattle.jiff_core.proofs.DateLemmas.{epoch_day_injective}
use Rattle.edf_time.specs.Civil.{IsDay, IsClock}

-- the parts of a day lie in their bounds
pub record IsInBounds (month day : ℕ) : Type 0 where
  pub month_from : 1 ≤ month
  pub month_to : month ≤ 12
  pub day_from : 1 ≤ day
  pub day_to : day ≤ 31

pub in-bounds : (year month day : ℕ) (days : ℤ) → IsDay year month day days → IsInBounds month day
in-bounds year month day days is =
    let long = days_in_month_bounds (pos year) month in
    record {
      month_from = is.exists.1.0;
      month_to = is.exists.1.1;
      day_from = is.exists.2.0;
      day_to = omega (arith, is.exists.2.1, long);
    }

-- a day of the calendar has a number
pub day-of : (y m d : ℕ) → IsCivilDate (pos y) m d → (days : ℤ) × IsDay y m d days
day-of y m d exists = (
  days_from_civil (pos y) m d -ℤ pos 5_479,
  record { exists = exists; count = omega (arith, signed_arith) },
)

-- three parts of one date
pub record SameDate (y m d year month day : ℕ) : Type 0 where
  pub year-is : y ≡ year
  pub month-is : m ≡ month
  pub day-is : d ≡ day

pub IsDay-same : (y m d year month day : ℕ) (days : ℤ) → SameDate y m d year month day →
    IsDay y m d days → IsDay year month day days
IsDay-same y m d year month day days same is =
    subst (λ (k : ℕ). IsDay k month day days) same.year-is
    (subst (λ (k : ℕ). IsDay y k day days) same.month-is
    (subst (λ (k : ℕ). IsDay y m k days) same.day-is is))

-- one number for the same parts
pub one-number : (year month day : ℕ) (a b : ℤ) → IsDay year month day a → IsDay year month day b →
    a ≡ b
one-number year month day a b p q =
    let e : pos 5_479 +ℤ a ≡ pos 5_479 +ℤ b = sym p.count ∙ q.count in
    omega (arith, signed_arith, e)

as-date : (year month day : ℕ) (days : ℤ) → IsDay year month day days → Date
as-date year month day days is = record {
  year = pos year;
  month = month;
  day = day;
  year_in =
      is.exists.0;
  month_in = is.exists.1;
  day_in = is.exists.2;
}

-- the same parts for one number
pub one-date : (y m d year month day : ℕ) (days : ℤ) → IsDay y m d days →
    IsDay year month day days → SameDate y m d year month day
unfolding as-date
one-date y m d year month day days p q =
    let e : epoch_day (as-date y m d days p) ≡ epoch_day (as-date year month day days q) = p.count
    ∙ sym q.count in
    let same = epoch_day_injective (as-date y m d days p) (as-date year month day days q) e in
    let years : pos y ≡ pos year = same.0 in
    record { year-is = cc; month-is = same.1; day-is = same.2 }

-- and so the clock
pub record SameClock (h m s hour minute second : ℕ) : Type 0 where
  pub hour-is : h ≡ hour
  pub minute-is : m ≡ minute
  pub second-is : s ≡ second

pub one-clock : (h m s hour minute second seconds : ℕ) → IsClock h m s seconds →
    IsClock hour minute second seconds → SameClock h m s hour minute second
one-clock h m s hour minute second seconds p q =
    let hours : h ≡ hour = omega (
      arith,
      p.in_hour,
      p.in_minute,
      q.in_hour,
      q.in_minute,
      p.count,
      q.count,
    ) in
    let minutes : m ≡ minute = omega (arith, hours, p.in_minute, q.in_minute, p.count, q.count) in
    record {
      hour-is = hours;
      minute-is = minutes;
      second-is =
          omega (arith, hours, minutes, p.count, q.count);
    }

pub one-second : (h m s hour minute second a b : ℕ) → SameClock h m s hour minute second →
    IsClock h m s a → IsClock hour minute second b → a ≡ b
one-second h m s hour minute second a b same p q =
    omega (arith, same.hour-is, same.minute-is, same.second-is, p.count, q.count)
