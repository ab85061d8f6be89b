-- The start of a file.
use Rattle.std.proofs.Common.{◌≡◌, ℕ, List, Option, Some, None, inl, inr, sym, ap, ◌∙◌, subst, refl}
use Rattle.std.proofs.Common.{codes, true, true≢false, arith, ℤ, pos}
use Rattle.std.specs.Prelude.{Result, Ok, Err, MatchResult, MatchOption, is_ok}
use Rattle.edf_time.specs.Civil.{IsDateText, IsTimeText, IsCivil, IsStartFault, AreStartdates}
use Rattle.edf_time.specs.Civil.{IsIdDate}
use Rattle.edf_time.specs.declared.civil.StartFault.{StartFault}
use Rattle.edf_time.specs.declared.civil.StartFault.TheVariants.{Date, Time, Differs}
use Rattle.edf_time.proofs.Cited.{has-form}
use Rattle.edf_mend.specs.Identification.{HasDate, date_of}
use Rattle.edf_mend.specs.Header.{dotted, KeepsTime, KeepsDate, HasDay}
use Rattle.edf_mend.specs.Laws.{HasStartdate, HasStarttime}

date-dotted : (text : List ℕ) (days : ℕ) → IsDateText text days → dotted text ≡ text
date-dotted text days is = ap (λ (l : List ℕ). dotted l) is.is_text ∙ sym is.is_text

-- a startdate that is read has dots
pub startdate-dotted : (date : List ℕ) (id : Option ℤ) (days : ℕ) → AreStartdates date id days →
    dotted date ≡ date
startdate-dotted date None days is = date-dotted date days is
startdate-dotted date (Some day) days (same, inl is) = date-dotted date days is
startdate-dotted date (Some day) days (same, inr late) =
    ap (λ (l : List ℕ). dotted l) late.is_text ∙ sym late.is_text

pub keeps-date : (given : Option (List ℕ)) (recording old new : List ℕ) (days : ℕ) →
    HasStartdate given recording old days → KeepsDate given recording old new →
    dotted new ≡ new → IsDateText new days
keeps-date None recording old new days (inl is) (inl same) dots =
    subst (λ (l : List ℕ). IsDateText l days) (sym same) is
keeps-date None recording old new days (inl is) (inr other) dots =
    subst (λ (l : List ℕ). IsDateText l days) (sym (other.1 ∙ date-dotted old days is)) is
keeps-date None recording old new days (inr (inl (day, is))) (inl same) dots =
    subst (λ (l : List ℕ). IsDateText l days)
    (sym (ap (λ (l : List ℕ). dotted l) same) ∙ dots) is
keeps-date None recording old new days (inr (inl (day, is))) (inr other) dots =
    subst (λ (l : List ℕ). IsDateText l days) (sym other.1) is
keeps-date None recording old new days (inr (inr none)) kept dots = absurd none
keeps-date (Some date) recording old new days (inl is) kept dots = absurd (kept.1.0 days is)
keeps-date (Some date) recording old new days (inr (inl (day, is))) kept dots =
    absurd (kept.1.1 (pos days, day, (days, (refl, inl is))))
keeps-date (Some date) recording old new days (inr (inr is)) kept dots =
    subst (λ (l : List ℕ). IsDateText l days) (sym kept.0) is

pub keeps-time : (given : Option (List ℕ)) (old new : List ℕ) (seconds : ℕ) →
    HasStarttime given old seconds → KeepsTime given old new → IsTimeText new seconds
keeps-time None old new seconds (inl (parted, is)) kept =
    subst (λ (l : List ℕ). IsTimeText l seconds) (sym kept.1) is
keeps-time None old new seconds (inr none) kept = absurd none
keeps-time (Some time) old new seconds (inl (parted, is)) kept = absurd (kept.1 seconds parted is)
keeps-time (Some time) old new seconds (inr is) kept =
    subst (λ (l : List ℕ). IsTimeText l seconds) (sym kept.0) is

-- ---- a day beside that of the recording field

pub midnight : IsTimeText (codes "00.00.00") 0
midnight = record {
  hour = 0;
  minute = 0;
  second = 0;
  is_text = refl;
  is_clock = record {
    in_day = omega arith;
    in_hour = omega arith;
    in_minute = omega arith;
    count = refl;
  };
}

pub day-of-field : (date : List ℕ) (day : ℤ) (r : Result ℕ StartFault) →
    MatchResult r (IsCivil date (codes "00.00.00") (Some day))
    (IsStartFault date (codes "00.00.00") (Some day)) →
    (is_ok r ≡ true → (days : ℕ) × AreStartdates date (Some day) days)
    × (((days : ℕ) × AreStartdates date (Some day) days) → is_ok r ≡ true)
day-of-field date day (Ok n) civil = (λ is. (civil.0, civil.2), λ some. refl)
day-of-field date day (Err Date) fails = (
  λ is. absurd (true≢false (sym is)),
  λ some. absurd (fails (has-form date (Some day) some.0 some.1)),
)
day-of-field date day (Err Time) fails = absurd (fails.1 0 midnight)
day-of-field date day (Err Differs) fails =
    (λ is. absurd (true≢false (sym is)), λ some. absurd (fails.2 some.0 some.1))

-- ---- the day of the recording field

pub day-of-date : (r : Option ℤ) (recording text : List ℕ) → text ≡ date_of recording →
    HasDate recording → MatchOption r ((day : ℤ) → ¬ IsIdDate text day) (IsIdDate text) →
    MatchOption r ((day : ℤ) → ¬ HasDay recording day) (HasDay recording)
day-of-date None recording text is dated none = λ day has. none day
    (subst (λ (l : List ℕ). IsIdDate l day) (sym is) has.1)
day-of-date (Some day) recording text is dated found =
    (dated, subst (λ (l : List ℕ). IsIdDate l day) is found)
