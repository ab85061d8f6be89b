-- The day that a startdate and the Startdate subfield name, and the start that they name with a
-- starttime.
use Rattle.std.proofs.Common.{◌≡◌, ℕ, ◌+◌, ◌*◌, ◌/◌, ◌%◌, ◌^◌, ◌≤◌, ◌<◌, inl, inr, List, arith}
use Rattle.std.proofs.Common.{refl, sym, ◌∙◌, subst, ℤ, pos, Option, Some, None, IsTrue, ◌↔◌, Bool}
use Rattle.std.proofs.Common.{true, false}
use Rattle.std.specs.Prelude.{MatchOption, is_some}
use Rattle.std.proofs.lemmas.Bool.{false≢true}
use Rattle.edf_time.specs.Civil.{IsDateText, IsDateField, IsYearlessText, AreStartdates}
use Rattle.edf_time.specs.Civil.{HasDateForm, IsTimeText, IsCivil, IsStartFault, window}
use Rattle.edf_time.specs.Civil.{window_days, two_digit_window, two_digit_days, day_of}
use Rattle.edf_time.specs.Civil.{second_of_day}
use Rattle.edf_time.specs.declared.civil.StartFault.{StartFault}
use Rattle.edf_time.specs.declared.civil.StartFault.TheVariants.{Date, Time, Differs}
use Rattle.edf_time.proofs.FieldTexts.{one-date_day, one-date_text, date-in-digits, date-in-window}
use Rattle.edf_time.proofs.FieldTexts.{late-after-digits, late-yearless, not-yearless}
use Rattle.edf_time.proofs.FieldTexts.{one-time_second, time-in-day}
use Rattle.jiff_core.proofs.SignedLemmas.{signed_arith}

pub one-startdates : (date : List ℕ) (id : Option ℤ) (a b : ℕ) → AreStartdates date id a →
    AreStartdates date id b → a ≡ b
one-startdates date None a b p q = one-date_day date a b p q
one-startdates date (Some day) a b p q = let e : pos a ≡ pos b = sym p.0 ∙ q.0 in
    omega (arith, signed_arith, e)

-- two digits of the year name a day without the subfield
pub digits-whatever : (date : List ℕ) (id : Option ℤ) (a b : ℕ) → IsDateText date a →
    AreStartdates date id b → a ≡ b
digits-whatever date None a b p q = one-date_day date a b p q
digits-whatever date (Some day) a b p (e, inl t) = one-date_day date a b p t
digits-whatever date (Some day) a b p (e, inr t) =
    absurd (not-yearless date a p (late-yearless date b t))

-- how the code decides whether a startdate has a form
pub answers-form : (date : List ℕ) (r : Option ℕ) (id : Option ℤ) (test : Bool) →
    false ≡ is_some r → true ≡ is_some id
    → MatchOption r ((days : ℕ) → ¬ IsDateText date days) (λ days. IsDateText date days
    × (days < two_digit_days))
    → IsTrue test ↔ IsYearlessText date → IsTrue test ↔ HasDateForm date id
answers-form date None (Some day) test e s none is =
    ((λ t. inr (is.0 t)), λ f. elim f [ inl d ↦ absurd (none d.0 d.1) | inr y ↦ is.1 y ])
answers-form date None None test e s none is = absurd (false≢true (sym s))
answers-form date (Some days) id test e s found is = absurd (false≢true e)

pub answers-no_form : (date : List ℕ) (r : Option ℕ) (id : Option ℤ) (test : Bool) →
    false ≡ is_some r → false ≡ is_some id → test ≡ false
    → MatchOption r ((days : ℕ) → ¬ IsDateText date days) (λ days. IsDateText date days
    × (days < two_digit_days))
    → IsTrue test ↔ HasDateForm date id
answers-no_form date None None test e s is none =
    ((λ t. absurd (false≢true (sym is ∙ t))), λ f. absurd (none f.0 f.1))
answers-no_form date None (Some day) test e s is none = absurd (false≢true s)
answers-no_form date (Some days) id test e s is found = absurd (false≢true e)

-- and which day it names beside a date
pub not-in-window : (date : List ℕ) (day : ℤ) → ((days : ℕ) → day ≡ pos days → window_days ≤ days) →
    (days : ℕ) → ¬ AreStartdates date (Some day) days
not-in-window date day far days (e, f) =
    absurd (omega (arith, far days e, date-in-window date days f))

pub other-day : (date field : List ℕ) (day : ℤ) (days : ℕ) → day ≡ pos days →
    IsDateField field days → ¬ (field ≡ date)
    → (k : ℕ) → ¬ AreStartdates date (Some day) k
other-day date field day days e f differ k (g, h) =
    let same : k ≡ days = omega (arith, signed_arith, e, g) in
    differ (one-date_text field date days f (subst (λ (n : ℕ). IsDateField date n) same h))

pub startdates-in-window : (date : List ℕ) (id : Option ℤ) (days : ℕ) → AreStartdates date id days →
    days < window_days
startdates-in-window date None days p = omega (arith, date-in-digits date days p)
startdates-in-window date (Some day) days p = date-in-window date days p.1

pub has-form : (date : List ℕ) (id : Option ℤ) (days : ℕ) → AreStartdates date id days →
    HasDateForm date id
has-form date None days p = (days, p)
has-form date (Some day) days (e, inl t) = inl (days, t)
has-form date (Some day) days (e, inr t) = inr (late-yearless date days t)

-- an instant by its day, the second of the day and the part of the second
pub instant-parts : (n : ℕ) → n ≡ (day_of n * 86_400 + second_of_day n) * 10 ^ 9 + n % 10 ^ 9
instant-parts n = omega arith

pub record IsWholeSecond (days seconds nanos : ℕ) : Type 0 where
  pub day : day_of nanos ≡ days
  pub second : second_of_day nanos ≡ seconds
  pub whole : nanos / 10 ^ 9 * 10 ^ 9 ≡ nanos

pub whole-second : (days seconds nanos : ℕ) → seconds < 86_400 →
    nanos ≡ (days * 86_400 + seconds) * 10 ^ 9 → IsWholeSecond days seconds nanos
whole-second days seconds nanos low e =
    record { day = omega arith; second = omega arith; whole = omega arith }

pub record IsStart (date time : List ℕ) (id : Option ℤ) (nanos : ℕ) : Type 0 where
  pub is_date : AreStartdates date id (day_of nanos)
  pub is_time : IsTimeText time (second_of_day nanos)
  pub in_window : nanos < window
  pub whole : nanos / 10 ^ 9 * 10 ^ 9 ≡ nanos

-- the texts of a start are those of its day and of its second
pub start-parts : (date time : List ℕ) (id : Option ℤ) (nanos : ℕ) → IsCivil date time id nanos →
    IsStart date time id nanos
start-parts date time id nanos (days, seconds, d, t, e) =
    let w = whole-second days seconds nanos (time-in-day time seconds t) e in
    record {
      is_date = subst (λ (k : ℕ). AreStartdates date id k) (sym w.day) d;
      is_time = subst (λ (k : ℕ). IsTimeText time k) (sym w.second) t;
      in_window = omega (arith, startdates-in-window date id days d, time-in-day time seconds t, e);
      whole = w.whole;
    }

pub start-two_digits : (date time : List ℕ) (nanos : ℕ) → IsCivil date time None nanos →
    nanos < two_digit_window
start-two_digits date time nanos (days, seconds, d, t, e) =
    omega (arith, date-in-digits date days d, time-in-day time seconds t, e)

-- and the texts of an instant's day and second name that second
pub start-of-dated : (date time : List ℕ) (instant : ℕ) → IsDateField date (day_of instant) →
    IsTimeText time (second_of_day instant)
    → IsCivil date time (Some (pos (day_of instant))) (instant / 10 ^ 9 * 10 ^ 9)
start-of-dated date time instant d t =
    (day_of instant, second_of_day instant, (refl, d), t, omega arith)

in-digits : (date : List ℕ) (days : ℕ) → days < two_digit_days → IsDateField date days →
    IsDateText date days
in-digits date days below (inl t) = t
in-digits date days below (inr t) = absurd (omega (arith, late-after-digits date days t))

pub start-of-undated : (date time : List ℕ) (instant : ℕ) → instant < two_digit_window →
    IsDateField date (day_of instant) → IsTimeText time (second_of_day instant)
    → IsCivil date time None (instant / 10 ^ 9 * 10 ^ 9)
start-of-undated date time instant low d t = (
  day_of instant,
  second_of_day instant,
  in-digits date (day_of instant) (omega arith) d,
  t,
  omega arith,
)

pub one-start : (date time : List ℕ) (id : Option ℤ) (m n : ℕ) → IsCivil date time id m →
    IsCivil date time id n → m ≡ n
one-start date time id m n (a, x, d, t, e) (b, y, f, g, h) =
    let days = one-startdates date id a b d f in
    let seconds = one-time_second time x y t g in
    omega (arith, days, seconds, e, h)

-- texts that name an instant have no fault, and others have one
pub no-start_fault : (date time : List ℕ) (id : Option ℤ) (nanos : ℕ) (fault : StartFault) →
    IsCivil date time id nanos → ¬ IsStartFault date time id fault
no-start_fault date time id nanos Date (days, seconds, d, t, e) p = p (has-form date id days d)
no-start_fault date time id nanos Time (days, seconds, d, t, e) p = p.1 seconds t
no-start_fault date time id nanos Differs (days, seconds, d, t, e) p = p.2 days d

pub one-start_fault : (date time : List ℕ) (id : Option ℤ) (a b : StartFault) →
    IsStartFault date time id a → IsStartFault date time id b → a ≡ b
one-start_fault date time id Date Date p q = refl
one-start_fault date time id Date Time p q = absurd (p q.0)
one-start_fault date time id Date Differs p q = absurd (p q.0)
one-start_fault date time id Time Date p q = absurd (q p.0)
one-start_fault date time id Time Time p q = refl
one-start_fault date time id Time Differs p q = absurd (p.1 q.1.0 q.1.1)
one-start_fault date time id Differs Date p q = absurd (q p.0)
one-start_fault date time id Differs Time p q = absurd (q.1 p.1.0 p.1.1)
one-start_fault date time id Differs Differs p q = refl
