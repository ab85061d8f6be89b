-- The texts dd.mm.yy with the letters yy: a leap year has each day that some year has.
use Rattle.std.proofs.Common.{◌≡◌, ℕ, ◌≤◌, ◌<◌, List, arith, refl, sym, ◌∙◌, subst, ℤ, pos, Option}
use Rattle.std.proofs.Common.{Some, None, IsTrue, ◌↔◌}
use Rattle.std.specs.Prelude.{MatchOption, is_some}
use Rattle.std.proofs.lemmas.Bool.{false≢true}
use Rattle.jiff_core.specs.Calendar.{IsCivilDate, days_in_month}
use Rattle.jiff_core.proofs.SignedLemmas.{signed_arith}
use Rattle.edf_time.specs.Civil.{IsDay, IsYearlessText}
use Rattle.edf_time.proofs.FieldTexts.{lettered, same-lettered}
use Rattle.edf_time.proofs.OneDay.{in-bounds, day-of}

month-in-leap_year : (y : ℤ) (m : ℕ) → days_in_month y m ≤ days_in_month (pos 2000) m
month-in-leap_year y m = grind arith

in-leap_year : (y m d : ℕ) → IsCivilDate (pos y) m d → IsCivilDate (pos 2000) m d
in-leap_year y m d exists = (
  (omega (arith, signed_arith), omega (arith, signed_arith)),
  exists.1,
  (exists.2.0, omega (arith, exists.2.1, month-in-leap_year (pos y) m)),
)

-- the day and the month of a leap year
pub yearless : (text : List ℕ) (m d : ℕ) (days : ℤ) → text ≡ lettered d m → IsDay 2000 m d days →
    IsYearlessText text
yearless text m d days e is = record {
  year = 2000;
  month = m;
  day = d;
  days = days;
  is_text = e;
  is_day = is;
}

pub yearless-in-leap_year : (text : List ℕ) (y : IsYearlessText text) →
    IsCivilDate (pos 2000) y.month y.day
yearless-in-leap_year text y = in-leap_year y.year y.month y.day y.is_day.exists

-- a text of this day and this month has no other
pub yearless-exists : (text : List ℕ) (m d : ℕ) → m < 100 → d < 100 → text ≡ lettered d m →
    IsYearlessText text → IsCivilDate (pos 2000) m d
yearless-exists text m d m-low d-low e y =
    let b = in-bounds y.year y.month y.day y.days y.is_day in
    let same = same-lettered y.day y.month d m (omega (arith, b.day_to)) (omega (arith, b.month_to))
    d-low m-low (sym y.is_text ∙ e) in
    subst (λ (k : ℕ). IsCivilDate (pos 2000) k d) same.1
    (subst (λ (k : ℕ). IsCivilDate (pos 2000) y.month k) same.0 (yearless-in-leap_year text y))

-- how the code decides it: whether the leap year has the day
pub answers-yearless : (text : List ℕ) (m d : ℕ) (r : Option ℤ) → m < 100 → d < 100 →
    text ≡ lettered d m
    → MatchOption r ((days : ℤ) → ¬ IsDay 2000 m d days) (λ days. IsDay 2000 m d days)
    → IsTrue (is_some r) ↔ IsYearlessText text
answers-yearless text m d None m-low d-low e none = (
  (λ is. absurd (false≢true is)),
  λ y. let n =
      day-of 2000 m d (yearless-exists text m d m-low d-low e y) in absurd (none n.0 n.1),
)
answers-yearless text m d (Some days) m-low d-low e found =
    ((λ is. yearless text m d days e found), λ y. refl)
