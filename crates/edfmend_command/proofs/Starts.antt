-- Starts that words give.
use Rattle.std.proofs.Common.{◌≡◌, ℕ, List, codes, true, false, None, refl, arith, ℤ, pos, negsuc}
use Rattle.std.proofs.Common.{◌≤ℤ◌}
use Rattle.std.specs.Prelude.{Result, Ok, Err, MatchResult, is_ok}
use Rattle.edf_time.specs.Civil.{IsCivil, IsStartFault, IsDateText, IsDay}
use Rattle.edf_time.specs.declared.civil.StartFault.{StartFault}
use Rattle.edf_time.specs.declared.civil.StartFault.TheVariants.{Date, Time, Differs}
use Rattle.edfmend_command.specs.Words.{IsDateWord, IsTimeWord}
use Rattle.edf_time.proofs.OneDay.{day-of}
use Rattle.edf_time.proofs.Days.{number-in-window}
use Rattle.edf_mend.proofs.Starts.{midnight}
use Rattle.std.proofs.lemmas.Int.{ints}

first-day-by : (z : ℤ) → IsDay 1985 1 1 z → pos 0 ≤ℤ z →
    (days : ℕ) × IsDateText (codes "01.01.85") days
first-day-by (pos n) is low = (
  n,
  record {
    year = 1985;
    month = 1;
    day = 1;
    is_text = refl;
    from = omega arith;
    to = omega arith;
    is_day = is;
  },
)
first-day-by (negsuc n) is low = absurd (grind (arith, ints, low))

pub first-day : (days : ℕ) × IsDateText (codes "01.01.85") days
first-day =
    let one = day-of 1985 1 1 (
      (grind (arith, ints), grind (arith, ints)),
      (omega arith, omega arith),
      (omega arith, omega arith),
    ) in
    first-day-by one.0 one.1 (number-in-window 1985 1 1 one.0 (omega arith) (omega arith) one.1).0

pub date-word : (text : List ℕ) (r : Result ℕ StartFault) →
    MatchResult r (IsCivil text (codes "00.00.00") None)
    (IsStartFault text (codes "00.00.00") None) →
    (is_ok r ≡ true → IsDateWord text) × (IsDateWord text → is_ok r ≡ true)
date-word text (Ok n) civil = (λ is. (civil.0, civil.2), λ word. refl)
date-word text (Err Date) fails =
    (λ is. absurd (let e : false ≡ true = is in cc), λ word. absurd (fails word))
date-word text (Err Time) fails = absurd (fails.1 0 midnight)
date-word text (Err Differs) fails =
    (λ is. absurd (let e : false ≡ true = is in cc), λ word. absurd (fails.2 word.0 word.1))

pub time-word : (text : List ℕ) (r : Result ℕ StartFault) →
    MatchResult r (IsCivil (codes "01.01.85") text None)
    (IsStartFault (codes "01.01.85") text None) →
    (is_ok r ≡ true → IsTimeWord text) × (IsTimeWord text → is_ok r ≡ true)
time-word text (Ok n) civil = (λ is. (civil.1, civil.3), λ word. refl)
time-word text (Err Date) fails = absurd (fails first-day)
time-word text (Err Time) fails =
    (λ is. absurd (let e : false ≡ true = is in cc), λ word. absurd (fails.1 word.0 word.1))
time-word text (Err Differs) fails = absurd (fails.2 first-day.0 first-day.1)
