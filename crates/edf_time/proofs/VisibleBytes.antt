-- How long the texts are, and that each byte of them is visible.
use Rattle.std.proofs.Common.{◌≡◌, ℕ, zero, suc, ◌+◌, ◌%◌, ◌^◌, ◌≤◌, ◌<◌, List, [], ◌∷◌, length}
use Rattle.std.proofs.Common.{arith, rules, ap, ◌∙◌, ℤ, pos, inl, inr}
use Rattle.std.specs.List.{AllByRecursion}
use Rattle.std.specs.Str.Parse.{AllDigits}
use Rattle.edf_time.specs.Civil.{IsVisible, IsDateField, IsTimeText, IsIdDate, IsInstantText}
use Rattle.edf_time.specs.Decimal.{fraction_text, fraction_digits}
use Rattle.edf_time.proofs.Digits.{digit_only}
use Rattle.edf_time.proofs.Short.{AllDigits-text}
use Rattle.edf_time.proofs.MonthNames.{AreCapitals, month_name-capitals}
use Rattle.edf_time.proofs.OneDay.{in-bounds}
use Rattle.edf_time.proofs.FieldTexts.{dotted, lettered}
use Rattle.edf_time.proofs.IdDates.{id_text, id_text-is}
use Rattle.edf_time.proofs.InstantTexts.{stamp, AreLow, are-low}

abbrev pub AreVisible : List ℕ → Type 0
AreVisible text = AllByRecursion IsVisible text

dotted-visible : (a b c : ℕ) → a < 100 → b < 100 → c < 100 → AreVisible (dotted a b c)
dotted-visible a b c a-low b-low c-low = search rules

lettered-visible : (a b : ℕ) → a < 100 → b < 100 → AreVisible (lettered a b)
lettered-visible a b a-low b-low = search rules

pub date-length : (text : List ℕ) (days : ℕ) → IsDateField text days → length text ≡ 8
date-length text days (inl t) = ap length t.is_text
date-length text days (inr t) = ap length t.is_text

pub date-visible : (text : List ℕ) (days : ℕ) → IsDateField text days → AreVisible text
date-visible text days (inl t) =
    let bounds = in-bounds t.year t.month t.day (pos days) t.is_day in
    rw (t.is_text) (dotted-visible t.day t.month (t.year % 100) (omega (arith, bounds.day_to))
    (omega (arith, bounds.month_to)) (omega arith))
date-visible text days (inr t) =
    let bounds = in-bounds t.year t.month t.day (pos days) t.is_day in
    rw (t.is_text) (lettered-visible t.day t.month (omega (arith, bounds.day_to))
    (omega (arith, bounds.month_to)))

pub time-length : (text : List ℕ) (seconds : ℕ) → IsTimeText text seconds → length text ≡ 8
time-length text seconds t = ap length t.is_text

pub time-visible : (text : List ℕ) (seconds : ℕ) → IsTimeText text seconds → AreVisible text
time-visible text seconds t =
    rw (t.is_text) (dotted-visible t.hour t.minute t.second (omega (arith, t.is_clock.in_day))
    (omega (arith, t.is_clock.in_hour)) (omega (arith, t.is_clock.in_minute)))

id_text-visible : (year month day : ℕ) → year ≤ 9999 → day < 100 → AreCapitals month →
    AreVisible (id_text year month day)
id_text-visible year month day year-low day-low capitals = search rules

id_date-is : (text : List ℕ) (days : ℤ) (t : IsIdDate text days) →
    text ≡ id_text t.year t.month t.day
id_date-is text days t =
    let bounds = in-bounds t.year t.month t.day days t.is_day in
    t.is_text ∙ id_text-is t.year t.month t.day bounds.month_from bounds.month_to

pub id_date-length : (text : List ℕ) (days : ℤ) → IsIdDate text days → length text ≡ 11
id_date-length text days t = ap length (id_date-is text days t)

pub id_date-visible : (text : List ℕ) (days : ℤ) → IsIdDate text days → AreVisible text
id_date-visible text days t =
    let bounds = in-bounds t.year t.month t.day days t.is_day in
    rw (id_date-is text days t) (id_text-visible t.year t.month t.day t.to
    (omega (arith, bounds.day_to)) (month_name-capitals t.month bounds.month_from
    bounds.month_to))

digits-visible : (ds : List ℕ) → AllDigits 10 ds → AreVisible ds
digits-visible [] p = tt
digits-visible (d ∷ ds) p = let b = digit_only d p.0 in
    ((omega (arith, b), omega (arith, b)), digits-visible ds p.1)

fraction-visible : (part : ℕ) → part < 10 ^ 9 → AreVisible (fraction_text part)
fraction-visible zero lt = tt
fraction-visible (suc p) lt = (
  (omega arith, omega arith),
  digits-visible (fraction_digits 9 (suc p)) (AllDigits-text 9 (suc p) lt),
)

stamp-visible : (year month day hour minute second : ℕ) (fraction : List ℕ) →
    AreLow year month day hour minute second → AreVisible fraction
    → AreVisible (stamp year month day hour minute second fraction)
stamp-visible year month day hour minute second fraction low rest = search rules depth 30

pub instant-visible : (text : List ℕ) (n : ℕ) → IsInstantText text n → AreVisible text
instant-visible text n t =
    rw (t.is_text) (stamp-visible t.year t.month t.day t.hour t.minute t.second
    (fraction_text (n % 10 ^ 9)) (are-low text n t)
    (fraction-visible (n % 10 ^ 9) (omega arith)))

-- 19 bytes, and the fraction
pub instant-length : (text : List ℕ) (n : ℕ) → IsInstantText text n →
    length text ≡ 19 + length (fraction_text (n % 10 ^ 9))
instant-length text n t = ap length t.is_text ∙ omega arith
