-- Each text has a reading, or it has a fault.
use Rattle.std.proofs.Common.{◌≡◌, ℕ, suc, ◌+◌, ◌*◌, ◌%◌, ◌^◌, ◌≤◌, ◌<◌, ◌⊎◌, inl, inr, List, []}
use Rattle.std.proofs.Common.{◌∷◌, ◌++◌, length, take, drop, arith, refl, sym, ap, ◌∙◌, subst, ℤ}
use Rattle.std.proofs.Common.{pos, negsuc, Option, Some, None}
use Rattle.std.specs.Prelude.{neg_ℤ, ◌≤ℤ◌}
use Rattle.std.specs.Char.{digit_value}
use Rattle.std.specs.Str.Parse.{AllDigits, IsNumeral, digits_value}
use Rattle.std.proofs.lemmas.Bool.{cases_lt}
use Rattle.std.proofs.lemmas.List.{length-append, take_at}
use Rattle.jiff_core.specs.Calendar.{IsCivilDate, days_in_month}
use Rattle.jiff_core.proofs.SignedLemmas.{signed_arith}
use Rattle.edf_time.specs.Civil.{IsDay, IsDateText, IsYearlessText, IsDateField, AreStartdates}
use Rattle.edf_time.specs.Civil.{HasDateForm, IsTimeText, IsIdDate, IsCivil, IsStartFault}
use Rattle.edf_time.specs.Civil.{window_days, two_digits, four_digits, month_name}
use Rattle.edf_time.specs.Decimal.{IsDecimal, IsFine, IsSeconds, IsDecimalFault, fraction_value}
use Rattle.edf_time.specs.declared.civil.StartFault.{StartFault}
use Rattle.edf_time.specs.declared.civil.StartFault.TheVariants.{Date, Time, Differs}
use Rattle.edf_time.specs.declared.decimal.DecimalFault.{DecimalFault}
use Rattle.edf_time.specs.declared.decimal.DecimalFault.TheVariants.{Syntax, TooFine, TooLarge}
use Rattle.edf_time.proofs.Days.{number-in-window}
use Rattle.edf_time.proofs.Decided.{Decided, like, both, either, less, at-most, at-most-int}
use Rattle.edf_time.proofs.Decided.{same-bytes, all-are, some-below}
use Rattle.edf_time.proofs.FieldTexts.{dotted, lettered, one-date_text, date-in-window}
use Rattle.edf_time.proofs.SomeText.{date-text}
use Rattle.edf_time.proofs.YearlessTexts.{yearless, yearless-in-leap_year}
use Rattle.edf_time.proofs.OneDay.{in-bounds, day-of}
use Rattle.edf_time.proofs.OneValue.{same-parts}

-- ---- decimals

all-digits : (ds : List ℕ) → Decided (AllDigits 10 ds)
all-digits [] = inl tt
all-digits (d ∷ ds) = both (less (digit_value d) 10) (all-digits ds)

numeral : (ds : List ℕ) → Decided (IsNumeral 10 ds)
numeral ds = both (less 0 (length ds)) (all-digits ds)

-- a dot at this offset, with digits before and after it
abbrev IsDottedAt : List ℕ → ℕ → Type 0
IsDottedAt text at = IsNumeral 10 (take at text) × IsNumeral 10 (drop (suc at) text)
    × (text ≡ take at text ++ 46 ∷ drop (suc at) text)

dotted-at : (text : List ℕ) (at : ℕ) → Decided (IsDottedAt text at)
dotted-at text at =
    like (both (numeral (take at text))
    (both (numeral (drop (suc at) text))
    (same-bytes text (take at text ++ 46 ∷ drop (suc at) text))))
    (λ p. (p.0, p.1.0, p.1.1)) (λ p. (p.0, (p.1, p.2)))

abbrev HasDot : List ℕ → Type 0
HasDot text = (at : ℕ) × (at < length text) × IsDottedAt text at

abbrev HasParts : List ℕ → Type 0
HasParts text = (whole : List ℕ) × (fraction : List ℕ) × IsDecimal text whole fraction

made : (text w f : List ℕ) → IsNumeral 10 w → IsNumeral 10 f → text ≡ w ++ 46 ∷ f →
    IsDecimal text w f
made text w [] p q e = let some : 0 < length {A = ℕ} [] = q.0 in absurd (omega arith)
made text w (d ∷ f) p q e = (p, q, e)

after-dot : (w f : List ℕ) → drop (suc (length w)) (w ++ 46 ∷ f) ≡ f
after-dot [] f = refl
after-dot (d ∷ w) f = after-dot w f

to-parts : (text : List ℕ) → IsNumeral 10 text ⊎ HasDot text → HasParts text
to-parts text (inl n) = (text, [], (n, refl))
to-parts text (inr (at, low, (w, f, e))) =
    (take at text, drop (suc at) text, made text (take at text) (drop (suc at) text) w f e)

from-parts : (text : List ℕ) → HasParts text → IsNumeral 10 text ⊎ HasDot text
from-parts text (w, [], d) = inl (subst (IsNumeral 10) (sym d.1) d.0)
from-parts text (w, c ∷ f, d) =
    let front : take (length w) text ≡ w = ap (take (length w)) d.2
    ∙ take_at w (46 ∷ c ∷ f) (length w) refl in
    let back : drop (suc (length w)) text ≡ c ∷ f = ap (drop (suc (length w))) d.2
    ∙ after-dot w (c ∷ f) in
    inr (
      length w,
      omega (arith, ap length d.2, length-append w (46 ∷ c ∷ f)),
      (rw front d.0, rw back d.1, rw (front, back) d.2),
    )

parts : (text : List ℕ) → Decided (HasParts text)
parts text =
    like (either (numeral text) (some-below (IsDottedAt text) (dotted-at text) (length text)))
    (to-parts text) (from-parts text)

-- its fraction, too fine or not
coarse : (text w f : List ℕ) → IsDecimal text w f → ¬ IsFine f → (nanos : ℕ) →
    ¬ IsSeconds text nanos
coarse text w f d never nanos s =
    never (subst IsFine (same-parts text s.whole s.fraction w f s.parts d).fraction s.fine)

pub some-value : (text : List ℕ) → ((nanos : ℕ) × IsSeconds text nanos)
    ⊎ ((nanos : ℕ) → ¬ IsSeconds text nanos)
some-value text =
    elim (parts text) [
      | inl p ↦ elim (all-are 48 (drop 9 p.1)) [
        | inl fine ↦ inl (
          digits_value 10 p.0 * 10 ^ 9 + fraction_value (10 ^ 8) p.1,
          record { whole = p.0; fraction = p.1; parts = p.2; fine = fine; value = refl },
        )
        | inr never ↦ inr (coarse text p.0 p.1 p.2 never)
      ]
      | inr never ↦ inr (λ nanos s. never (s.whole, s.fraction, s.parts))
    ]

not-fine : (text : List ℕ) → HasParts text → ((nanos : ℕ) → ¬ IsSeconds text nanos) →
    IsDecimalFault text TooFine
not-fine text (w, f, d) never = (
  w,
  f,
  d,
  λ fine. never _ (record {
    whole = w;
    fraction = f;
    parts = d;
    fine = fine;
    value =
        refl;
  }),
)

pub some-decimal : (text : List ℕ) → ((nanos : ℕ) × IsSeconds text nanos × (nanos < 2 ^ 63))
    ⊎ ((fault : DecimalFault) × IsDecimalFault text fault)
some-decimal text =
    elim (some-value text) [
      | inl v ↦ elim (cases_lt v.0 (2 ^ 63)) [
        | inl small ↦ inl (v.0, v.1, small)
        | inr large ↦ inr (TooLarge, (v.0, v.1, large))
      ]
      | inr never ↦ elim (parts text) [
        | inl p ↦ inr (TooFine, not-fine text p never)
        | inr none ↦ inr (Syntax, λ w f d. none (w, f, d))
      ]
    ]

-- ---- dates and times: a search among all that have the form

-- hh.mm.ss
abbrev IsClockText : List ℕ → ℕ → ℕ → ℕ → Type 0
IsClockText text h m s = text ≡ dotted h m s

abbrev HasMinute : List ℕ → ℕ → ℕ → Type 0
HasMinute text h m = (s : ℕ) × (s < 60) × IsClockText text h m s

abbrev HasHour : List ℕ → ℕ → Type 0
HasHour text h = (m : ℕ) × (m < 60) × HasMinute text h m

clock : (text : List ℕ) → Decided ((h : ℕ) × (h < 24) × HasHour text h)
clock text = some-below (HasHour text) (λ h.
    some-below (HasMinute text h) (λ m.
    some-below (IsClockText text h m) (λ s. same-bytes text (dotted h m s)) 60) 60) 24

from-clock : (text : List ℕ) → ((h : ℕ) × (h < 24) × HasHour text h) → (seconds : ℕ)
    × IsTimeText text seconds
from-clock text (h, hour, (m, minute, (s, second, is))) = (
  h * 3_600 + m * 60 + s,
  record {
    hour = h;
    minute = m;
    second = s;
    is_text = is;
    is_clock = record {
      in_day = omega arith;
      in_hour = omega arith;
      in_minute = omega arith;
      count = refl;
    };
  },
)

to-clock : (text : List ℕ) → ((seconds : ℕ) × IsTimeText text seconds) → (h : ℕ) × (h < 24)
    × HasHour text h
to-clock text (seconds, t) = (
  t.hour,
  omega (arith, t.is_clock.in_day),
  (
    t.minute,
    omega (arith, t.is_clock.in_hour),
    (t.second, omega (arith, t.is_clock.in_minute), t.is_text),
  ),
)

pub some-time : (text : List ℕ) → Decided ((seconds : ℕ) × IsTimeText text seconds)
some-time text = like (clock text) (from-clock text) (to-clock text)

-- a day of the calendar
civil-date : (y : ℤ) (m d : ℕ) → Decided (IsCivilDate y m d)
civil-date y m d =
    like (both (both (at-most-int (neg_ℤ (pos 9999)) y) (at-most-int y (pos 9999)))
    (both (both (at-most 1 m) (at-most m 12))
    (both (at-most 1 d) (at-most d (days_in_month y m)))))
    (λ p. (p.0, p.1.0, p.1.1))
    (λ p. (p.0, (p.1, p.2)))

natural : (z : ℤ) → pos 0 ≤ℤ z → (n : ℕ) × (z ≡ pos n)
natural (pos n) low = (n, refl)
natural (negsuc n) low = absurd (omega (arith, signed_arith))

-- a text of such a form, of a year, a month and a day
module _ (form : ℕ → ℕ → ℕ → List ℕ) (text : List ℕ) where
  abbrev IsOf : ℕ → ℕ → ℕ → Type 0
  IsOf y m d = (text ≡ form y m d) × IsCivilDate (pos y) m d

  abbrev HasMonth : ℕ → ℕ → Type 0
  HasMonth y m = (d : ℕ) × (d < 32) × IsOf y m d

  abbrev HasYear : ℕ → Type 0
  HasYear y = (m : ℕ) × (m < 13) × HasMonth y m

  year : (y : ℕ) → Decided (HasYear y)
  year y = some-below (HasMonth y) (λ m.
      some-below (IsOf y m) (λ d. both (same-bytes text (form y m d)) (civil-date (pos y) m d)) 32)
      13

  found : (y m d : ℕ) (days : ℤ) → text ≡ form y m d → IsDay y m d days → HasYear y
  found y m d days is day =
      let b = in-bounds y m d days day in
      (m, omega (arith, b.month_to), (d, omega (arith, b.day_to), (is, day.exists)))

-- dd-MMM-yyyy
abbrev id-form : ℕ → ℕ → ℕ → List ℕ
id-form y m d = two_digits d ++ 45 ∷ month_name m ++ 45 ∷ four_digits y

from-id : (text : List ℕ) → ((y : ℕ) × (y < 10_000) × HasYear id-form text y) → (day : ℤ)
    × IsIdDate text day
from-id text (y, low, (m, month, (d, day, (is, exists)))) =
    let number = day-of y m d exists in (
      number.0,
      record {
        year = y;
        month = m;
        day = d;
        is_text = is;
        to = omega arith;
        is_day =
            number.1;
      },
    )

to-id : (text : List ℕ) → ((day : ℤ) × IsIdDate text day) → (y : ℕ) × (y < 10_000)
    × HasYear id-form text y
to-id text (day, t) = (
  t.year,
  omega (arith, t.to),
  found id-form text t.year t.month t.day day t.is_text t.is_day,
)

pub some-id_date : (text : List ℕ) → Decided ((day : ℤ) × IsIdDate text day)
some-id_date text = like (some-below (HasYear id-form text) (year id-form text) 10_000)
    (from-id text) (to-id text)

-- dd.mm.yy
abbrev date-form : ℕ → ℕ → ℕ → List ℕ
date-form y m d = dotted d m (y % 100)

abbrev HasWindowYear : List ℕ → ℕ → Type 0
HasWindowYear text y = (1985 ≤ y) × HasYear date-form text y

from-date : (text : List ℕ) → ((y : ℕ) × (y < 2085) × HasWindowYear text y) → (days : ℕ)
    × IsDateText text days
from-date text (y, to, (from, (m, month, (d, day, (is, exists))))) =
    let number = day-of y m d exists in
    let n = natural number.0 (number-in-window y m d number.0 from (omega arith) number.1).0 in (
      n.0,
      record {
        year = y;
        month = m;
        day = d;
        is_text = is;
        from = from;
        to = omega arith;
        is_day = subst (λ (z : ℤ). IsDay y m d z) n.1 number.1;
      },
    )

to-date : (text : List ℕ) → ((days : ℕ) × IsDateText text days) → (y : ℕ) × (y < 2085)
    × HasWindowYear text y
to-date text (days, t) = (
  t.year,
  omega (arith, t.to),
  (t.from, found date-form text t.year t.month t.day (pos days) t.is_text t.is_day),
)

pub some-date : (text : List ℕ) → Decided ((days : ℕ) × IsDateText text days)
some-date text =
    like (some-below (HasWindowYear text) (λ y. both (at-most 1985 y) (year date-form text y)) 2085)
    (from-date text) (to-date text)

-- dd.mm.yy with the letters yy
from-yearless : (text : List ℕ) → HasYear (λ y m d. lettered d m) text 2000 → IsYearlessText text
from-yearless text (m, month, (d, day, (is, exists))) = let number = day-of 2000 m d exists in
    yearless text m d number.0 is number.1

pub some-yearless : (text : List ℕ) → Decided (IsYearlessText text)
some-yearless text =
    like (year (λ y m d. lettered d m) text 2000) (from-yearless text)
    (λ t. let b = in-bounds t.year t.month t.day t.days t.is_day in (
      t.month,
      omega (arith, b.month_to),
      (t.day, omega (arith, b.day_to), (t.is_text, yearless-in-leap_year text t)),
    ))

-- the startdate of a day, and that of a Startdate subfield
field-of : (text : List ℕ) (days : ℕ) → Decided (IsDateField text days)
field-of text days =
    elim (cases_lt days window_days) [
      | inl lt ↦ let t = date-text days lt in
          like (same-bytes text t.0) (λ e. subst (λ (k : List ℕ). IsDateField k days) (sym e) t.1)
          (λ f. one-date_text text t.0 days f t.1)
      | inr le ↦ inr (λ f. absurd (omega (arith, le, date-in-window text days f)))
    ]

pub some-startdates : (text : List ℕ) (id : Option ℤ) →
    Decided ((days : ℕ) × AreStartdates text id days)
some-startdates text None = some-date text
some-startdates text (Some (pos n)) =
    like (field-of text n) (λ f. (n, (refl, f))) (λ (days, (e, f)). let same : days ≡ n =
    omega (arith, signed_arith, e) in subst (λ (k : ℕ). IsDateField text k) same f)
some-startdates text (Some (negsuc n)) =
    inr (λ (days, (e, f)). absurd (omega (arith, signed_arith, e)))

some-form : (text : List ℕ) (id : Option ℤ) → Decided (HasDateForm text id)
some-form text None = some-date text
some-form text (Some day) = either (some-date text) (some-yearless text)

-- ---- a start

pub some-start : (date time : List ℕ) (id : Option ℤ) → ((start : ℕ) × IsCivil date time id start)
    ⊎ ((fault : StartFault) × IsStartFault date time id fault)
some-start date time id =
    elim (some-form date id) [
      | inl form ↦ elim (some-time time) [
        | inl t ↦ elim (some-startdates date id) [
          | inl d ↦ inl ((d.0 * 86_400 + t.0) * 10 ^ 9, (d.0, t.0, d.1, t.1, refl))
          | inr never ↦ inr (Differs, (form, t, λ days d. never (days, d)))
        ]
        | inr never ↦ inr (Time, (form, λ seconds t. never (seconds, t)))
      ]
      | inr never ↦ inr (Date, never)
    ]
