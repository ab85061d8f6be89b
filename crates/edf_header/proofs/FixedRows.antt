-- The rows of the fixed part, one after another.
use Rattle.std.proofs.Common.{◌≡◌, ℕ, suc, List, arith, inl, inr, subst, ℤ, Option, Some, None}
use Rattle.std.proofs.lemmas.Bool.{cases_lt}
use Rattle.edf_time.specs.Civil.{AreStartdates, HasDateForm, IsCivil, IsTimeText, IsStartFault}
use Rattle.edf_time.specs.declared.civil.StartFault.{StartFault}
use Rattle.edf_time.specs.declared.civil.StartFault.TheVariants as why
use Rattle.edf_time.proofs.Cited.{has-form}
use Rattle.edf_field.specs.Number.{field, IsDuration}
use Rattle.edf_field.specs.Text.{IsPatient, IsStartdate, IsRecording, after_startdate_of}
use Rattle.edf_field.proofs.Cited.{patient-no-fault, recording-no-fault}
use Rattle.edf_header.specs.Fault.{FixedPartFails, IsClean, IsFirst}
use Rattle.edf_header.specs.Condition.{HasSignals}
use Rattle.edf_header.specs.Fault.{header_fault_number}
use Rattle.edf_header.specs.declared.fault.HeaderFault.{HeaderFault}
use Rattle.edf_header.specs.declared.fault.HeaderFault.TheVariants.{Patient, Recording, Startdate}
use Rattle.edf_header.specs.declared.fault.HeaderFault.TheVariants.{Starttime, DatesDiffer}
use Rattle.edf_header.specs.declared.fault.HeaderFault.TheVariants.{Duration, Signals}
use Rattle.edf_header.proofs.Startdates.{has-startdate, no-startdate, same-startdates}
use Rattle.edf_header.proofs.Startdates.{other-startdates}

-- past a row that is not true
pub clean-more : (Holds : HeaderFault → Type 0) (n : ℕ) → IsClean Holds n →
    ((fault : HeaderFault) → header_fault_number fault ≡ n → ¬ Holds fault) → IsClean Holds (suc n)
clean-more Holds n clean row fault lt holds =
    elim (cases_lt (header_fault_number fault) n) [
      | inl below ↦ clean fault below holds
      | inr le ↦ row fault (omega arith) holds
    ]

-- E4
past-patient : (b : List ℕ) → IsPatient (field b 8 80) → (fault : HeaderFault) →
    header_fault_number fault ≡ 4 → ¬ FixedPartFails b fault
past-patient b is (Patient why) e fails = patient-no-fault (field b 8 80) why is fails
past-patient b is fault e fails = absurd (omega arith)

pub patient-in : (b : List ℕ) → IsClean (FixedPartFails b) 4 → IsPatient (field b 8 80) →
    IsPatient (field b 8 80) × IsClean (FixedPartFails b) 5
patient-in b clean is = (is, clean-more (FixedPartFails b) 4 clean (past-patient b is))

-- E5
past-recording : (b : List ℕ) (s : Option ℤ) (after : List ℕ) →
    IsRecording (field b 88 80) s after → (fault : HeaderFault) → header_fault_number fault ≡ 5 →
    ¬ FixedPartFails b fault
past-recording b s after is (Recording why) e fails =
    recording-no-fault (field b 88 80) s after why is fails
past-recording b s after is fault e fails = absurd (omega arith)

after-is : (f : List ℕ) (s : Option ℤ) (after : List ℕ) → IsStartdate f s after →
    after ≡ after_startdate_of s f
after-is f None after p = p.1
after-is f (Some day) after p = p.2

pub recording-in : (b : List ℕ) (s : Option ℤ) (after : List ℕ) → IsClean (FixedPartFails b) 5 →
    IsRecording (field b 88 80) s after
    → IsRecording (field b 88 80) s (after_startdate_of s (field b 88 80))
    × IsClean (FixedPartFails b) 6
recording-in b s after clean is = (
  subst (λ (l : List ℕ). IsRecording (field b 88 80) s l)
      (after-is (field b 88 80) s after is.is_startdate) is,
  clean-more (FixedPartFails b) 5 clean (past-recording b s after is),
)

-- E6, E7, E8
past-startdate : (b : List ℕ) (s : Option ℤ) (after : List ℕ) →
    IsRecording (field b 88 80) s after → HasDateForm (field b 168 8) s
    → (fault : HeaderFault) → header_fault_number fault ≡ 6 → ¬ FixedPartFails b fault
past-startdate b s after is form Startdate e fails = has-startdate b s after is form fails
past-startdate b s after is form fault e fails = absurd (omega arith)

past-starttime : (b : List ℕ) (seconds : ℕ) → IsTimeText (field b 176 8) seconds →
    (fault : HeaderFault) → header_fault_number fault ≡ 7 → ¬ FixedPartFails b fault
past-starttime b seconds is Starttime e fails = fails seconds is
past-starttime b seconds is fault e fails = absurd (omega arith)

past-differ : (b : List ℕ) (s : Option ℤ) (after : List ℕ) (days : ℕ) →
    IsRecording (field b 88 80) s after → AreStartdates (field b 168 8) s days
    → (fault : HeaderFault) → header_fault_number fault ≡ 8 → ¬ FixedPartFails b fault
past-differ b s after days is are DatesDiffer e fails = same-startdates b s after days is are fails
past-differ b s after days is are fault e fails = absurd (omega arith)

clean-7 : (b : List ℕ) (s : Option ℤ) (after : List ℕ) → IsClean (FixedPartFails b) 6 →
    IsRecording (field b 88 80) s after → HasDateForm (field b 168 8) s →
    IsClean (FixedPartFails b) 7
clean-7 b s after clean is form =
    clean-more (FixedPartFails b) 6 clean (past-startdate b s after is form)

clean-8 : (b : List ℕ) (s : Option ℤ) (after : List ℕ) (seconds : ℕ) →
    IsClean (FixedPartFails b) 6 → IsRecording (field b 88 80) s after →
    HasDateForm (field b 168 8) s
    → IsTimeText (field b 176 8) seconds → IsClean (FixedPartFails b) 8
clean-8 b s after seconds clean is form time =
    clean-more (FixedPartFails b) 7 (clean-7 b s after clean is form)
    (past-starttime b seconds time)

pub start-in : (b date time : List ℕ) (s : Option ℤ) (after : List ℕ) (start : ℕ) →
    IsClean (FixedPartFails b) 6 → IsRecording (field b 88 80) s after
    → date ≡ field b 168 8 → time ≡ field b 176 8 → IsCivil date time s start
    → IsCivil (field b 168 8) (field b 176 8) s start × IsClean (FixedPartFails b) 9
start-in b date time s after start clean is d t civil-is =
    let civil : IsCivil (field b 168 8) (field b 176 8) s start =
    subst (λ (x : List ℕ). IsCivil x (field b 176 8) s start) d
    (subst (λ (x : List ℕ). IsCivil date x s start) t civil-is) in
    let form = has-form (field b 168 8) s civil.0 civil.2 in (
      civil,
      clean-more (FixedPartFails b) 8 (clean-8 b s after civil.1 clean is form civil.3)
          (past-differ b s after civil.0 is civil.2),
    )

at-fields : (b date time : List ℕ) (s : Option ℤ) (fault known : StartFault) →
    date ≡ field b 168 8 → time ≡ field b 176 8 → fault ≡ known → IsStartFault date time s fault
    → IsStartFault (field b 168 8) (field b 176 8) s known
at-fields b date time s fault known d t why-is is =
    subst (λ (f : StartFault). IsStartFault (field b 168 8) (field b 176 8) s f) why-is
    (subst (λ (x : List ℕ). IsStartFault x (field b 176 8) s fault) d
    (subst (λ (x : List ℕ). IsStartFault date x s fault) t is))

pub start-no-date : (b date time : List ℕ) (s : Option ℤ) (after : List ℕ) (fault : StartFault) →
    IsClean (FixedPartFails b) 6 → IsRecording (field b 88 80) s after
    → date ≡ field b 168 8 → time ≡ field b 176 8 → fault ≡ why.Date →
    IsStartFault date time s fault → IsFirst (FixedPartFails b) Startdate
start-no-date b date time s after fault clean is d t why-is fails =
    (no-startdate b s after is (at-fields b date time s fault why.Date d t why-is fails), clean)

pub start-no-time : (b date time : List ℕ) (s : Option ℤ) (after : List ℕ) (fault : StartFault) →
    IsClean (FixedPartFails b) 6 → IsRecording (field b 88 80) s after
    → date ≡ field b 168 8 → time ≡ field b 176 8 → fault ≡ why.Time →
    IsStartFault date time s fault → IsFirst (FixedPartFails b) Starttime
start-no-time b date time s after fault clean is d t why-is fails =
    let none = at-fields b date time s fault why.Time d t why-is fails in
    (none.1, clean-7 b s after clean is none.0)

pub start-differs : (b date time : List ℕ) (s : Option ℤ) (after : List ℕ) (fault : StartFault) →
    IsClean (FixedPartFails b) 6 → IsRecording (field b 88 80) s after
    → date ≡ field b 168 8 → time ≡ field b 176 8 → fault ≡ why.Differs →
    IsStartFault date time s fault → IsFirst (FixedPartFails b) DatesDiffer
start-differs b date time s after fault clean is d t why-is fails =
    let other = at-fields b date time s fault why.Differs d t why-is fails in (
      other-startdates b s after is other.0 other.2,
      clean-8 b s after other.1.0 clean is other.0 other.1.1,
    )

-- E11
past-duration : (b : List ℕ) (nanos : ℕ) → IsDuration (field b 244 8) nanos →
    (fault : HeaderFault) → header_fault_number fault ≡ 11 → ¬ FixedPartFails b fault
past-duration b nanos is Duration e fails = fails nanos is
past-duration b nanos is fault e fails = absurd (omega arith)

pub duration-in : (b : List ℕ) (nanos : ℕ) → IsClean (FixedPartFails b) 11 →
    IsDuration (field b 244 8) nanos → ((n : ℕ) × IsDuration (field b 244 8) n)
    × IsClean (FixedPartFails b) 12
duration-in b nanos clean is = (
  (nanos, is),
  clean-more (FixedPartFails b) 11 clean (past-duration b nanos is),
)

-- E12
past-signals : (b : List ℕ) (n : ℕ) → HasSignals b n → (fault : HeaderFault) →
    header_fault_number fault ≡ 12 → ¬ FixedPartFails b fault
past-signals b n has Signals e fails = fails n has
past-signals b n has fault e fails = absurd (omega arith)

pub signals-in : (b : List ℕ) (n : ℕ) → IsClean (FixedPartFails b) 12 → HasSignals b n →
    HasSignals b n × IsClean (FixedPartFails b) 13
signals-in b n clean has = (has, clean-more (FixedPartFails b) 12 clean (past-signals b n has))
