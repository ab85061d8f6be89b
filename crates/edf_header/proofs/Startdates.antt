-- The startdate beside the Startdate subfield: when the faults E6 and E8 are true.
use Rattle.std.proofs.Common.{ℕ, List, inl, inr, subst, ℤ, Option, Some, None}
use Rattle.edf_time.specs.Civil.{AreStartdates, HasDateForm}
use Rattle.edf_time.proofs.Cited.{not-yearless, some-yearless}
use Rattle.edf_field.proofs.Recordings.{x-no-date, one-after}
use Rattle.edf_field.specs.Number.{field}
use Rattle.edf_field.specs.Text.{IsRecording}
use Rattle.edf_header.specs.Fault.{FixedPartFails}
use Rattle.edf_header.specs.Condition.{DatesAreOther}
use Rattle.edf_header.specs.declared.fault.HeaderFault.TheVariants.{Startdate, DatesDiffer}

-- E6 is true just where the startdate has none of its forms
pub has-startdate : (b : List ℕ) (s : Option ℤ) (after : List ℕ) →
    IsRecording (field b 88 80) s after → HasDateForm (field b 168 8) s →
    ¬ FixedPartFails b Startdate
has-startdate b None after is form (inl none) = none.0 form.0 form.1
has-startdate b None after is form (inr undated) =
    not-yearless (field b 168 8) form.0 form.1 undated.0
has-startdate b (Some day) after is (inl date) (inl none) = none.0 date.0 date.1
has-startdate b (Some day) after is (inr yearless) (inl none) = none.1 yearless
has-startdate b (Some day) after is form (inr undated) =
    x-no-date (field b 88 80) day undated.1.1.is_startdate.0 is.is_startdate.1

pub no-startdate : (b : List ℕ) (s : Option ℤ) (after : List ℕ) →
    IsRecording (field b 88 80) s after → ¬ HasDateForm (field b 168 8) s →
    FixedPartFails b Startdate
no-startdate b None after is none =
    elim (some-yearless (field b 168 8)) [
      | inl yearless ↦ inr (yearless, (after, is))
      | inr never ↦ inl (λ days date. none (days, date), never)
    ]
no-startdate b (Some day) after is none =
    inl (λ days date. none (inl (days, date)), λ yearless. none (inr yearless))

-- E8 is true just where it has a form, and names no day beside the subfield
pub same-startdates : (b : List ℕ) (s : Option ℤ) (after : List ℕ) (days : ℕ) →
    IsRecording (field b 88 80) s after → AreStartdates (field b 168 8) s days →
    ¬ FixedPartFails b DatesDiffer
same-startdates b s after days is are differ =
    let same = (one-after (field b 88 80) s (Some differ.day) after differ.after is.is_startdate
    differ.recording.is_startdate).0 in
    differ.other days (subst (λ (r : Option ℤ). AreStartdates (field b 168 8) r days) same are)

pub other-startdates : (b : List ℕ) (s : Option ℤ) (after : List ℕ) →
    IsRecording (field b 88 80) s after → HasDateForm (field b 168 8) s
    → ((days : ℕ) → ¬ AreStartdates (field b 168 8) s days) → DatesAreOther b
other-startdates b None after is form other = absurd (other form.0 form.1)
other-startdates b (Some day) after is form other =
    record { day = day; after = after; recording = is; form = form; other = other }
