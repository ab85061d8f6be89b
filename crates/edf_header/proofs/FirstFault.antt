-- Rows that are decided, in the order of their numbers: none is true, or one is the first.
use Rattle.std.proofs.Common.{◌≡◌, ◌≢◌, ℕ, suc, ◌+◌, ◌*◌, List, [], length, arith, refl, sym, ap}
use Rattle.std.proofs.Common.{◌∙◌, subst, inl, inr, cond, eqb, Option, ℤ, Some}
use Rattle.std.specs.Prelude.{◌⊎◌, codes}
use Rattle.edf_time.specs.Civil.{HasDateForm, IsDateText, IsTimeText}
use Rattle.edf_field.specs.Number.{field, IsDuration, IsNumber}
use Rattle.edf_field.specs.Text.{IsPrintable, IsRecording}
use Rattle.edf_header.specs.Signal.{IsFirstBad, Passes, signals_of}
use Rattle.edf_header.specs.Fault.{FixedPartFails}
use Rattle.edf_header.specs.Condition.{DatesAreOther, HasNoYear, HasSignals}
use Rattle.edf_header.specs.Fault.{IsClean, IsFirst, SignalsFail}
use Rattle.edf_header.specs.Condition.{HasBadByteAt, IsBadSignal, IsNoStartdate}
use Rattle.edf_header.specs.Format.{IsFormat}
use Rattle.edf_header.specs.declared.format.Format.{Format}
use Rattle.edf_header.specs.declared.format.Format.TheVariants.{Other}
use Rattle.edf_field.specs.Fault.{IsPatientFault, IsRecordingFault}
use Rattle.edf_field.specs.declared.fault.PatientFault.{PatientFault}
use Rattle.edf_field.specs.declared.fault.PatientFault.TheVariants.{NoSex}
use Rattle.edf_field.specs.declared.fault.RecordingFault.{RecordingFault}
use Rattle.edf_field.specs.declared.fault.RecordingFault.TheVariants.{NoDate}
use Rattle.edf_field.proofs.Cited.{patient-no-fault, recording-no-fault}
use Rattle.edf_header.specs.Fault.{header_fault_number}
use Rattle.edf_header.specs.declared.signal_checks.Check.{Check}
use Rattle.edf_header.specs.declared.signal_checks.Check.TheVariants as checks
use Rattle.edf_header.specs.declared.fault.HeaderFault.{HeaderFault}
use Rattle.edf_header.specs.declared.fault.HeaderFault.TheVariants.{Cut, Unprintable, Version}
use Rattle.edf_header.specs.declared.fault.HeaderFault.TheVariants.{Patient, Recording, Startdate}
use Rattle.edf_header.specs.declared.fault.HeaderFault.TheVariants.{Starttime, DatesDiffer, NotPlus}
use Rattle.edf_header.specs.declared.fault.HeaderFault.TheVariants.{Count, Duration, Signals}
use Rattle.edf_header.specs.declared.fault.HeaderFault.TheVariants.{HeaderBytes, CutSignals}
use Rattle.edf_header.specs.declared.fault.HeaderFault.TheVariants.{UnprintableSignals, Annotations}
use Rattle.edf_header.specs.declared.fault.HeaderFault.TheVariants.{Physical, Digital, Samples}
use Rattle.edf_header.specs.declared.fault.HeaderFault.TheVariants.{Size, Memory}
use Rattle.edf_field.proofs.Recordings.{one-after}
use Rattle.edf_header.proofs.FixedRows.{clean-more}
use Rattle.edf_header.proofs.Formats.{some-format}
use Rattle.edf_header.proofs.Startdates.{other-startdates, same-startdates}
use Rattle.edf_header.proofs.Faults.{not-bad}
use Rattle.edf_header.proofs.Decided.{Decided, like, both, either, negated, less, same-bytes}
use Rattle.edf_header.proofs.Decided.{first-bad}
use Rattle.edf_header.proofs.DecidedFields as fields
use Rattle.edf_time.proofs.Cited.{some-date, some-startdates, some-time, some-yearless}
use Rattle.edf_header.proofs.DecidedTexts as texts
use Rattle.edf_header.proofs.DecidedSignals as rows

-- what a fault names beside its number
record Spot : Type 0 where
  at : ℕ
  format : Format
  patient : PatientFault
  recording : RecordingFault

-- an offset or a signal alone
abbrev at_only : ℕ → Spot
at_only at = record { at = at; format = Other; patient = NoSex; recording = NoDate }

abbrev by_format : ℕ → Format → Spot
by_format at format = record { at = at; format = format; patient = NoSex; recording = NoDate }

abbrev by_patient : PatientFault → Spot
by_patient why = record { at = 0; format = Other; patient = why; recording = NoDate }

abbrev by_recording : RecordingFault → Spot
by_recording why = record { at = 0; format = Other; patient = NoSex; recording = why }

abbrev spot : HeaderFault → Spot
spot (Unprintable offset format) = by_format offset format
spot (Version format) = by_format 0 format
spot (Patient why) = by_patient why
spot (Recording why) = by_recording why
spot (UnprintableSignals offset) = at_only offset
spot (Physical signal) = at_only signal
spot (Digital signal) = at_only signal
spot (Samples signal) = at_only signal
spot e = at_only 0

-- the fault of a number, with what it names
abbrev made : ℕ → Spot → HeaderFault
made n s =
    cond (eqb n 1) Cut (cond (eqb n 2) (Unprintable s.at s.format)
    (cond (eqb n 3) (Version s.format) (cond (eqb n 4) (Patient s.patient)
    (cond (eqb n 5) (Recording s.recording)
    (cond (eqb n 6) Startdate (cond (eqb n 7) Starttime
    (cond (eqb n 8) DatesDiffer (cond (eqb n 9) NotPlus (cond (eqb n 10) Count
    (cond (eqb n 11) Duration (cond (eqb n 12) Signals
    (cond (eqb n 13) HeaderBytes (cond (eqb n 14) CutSignals
    (cond (eqb n 15) (UnprintableSignals s.at)
    (cond (eqb n 16) Annotations (cond (eqb n 17) (Physical s.at)
    (cond (eqb n 18) (Digital s.at) (cond (eqb n 19) (Samples s.at) (cond (eqb n 20) Size
    Memory)))))))))))))))))))

made-is : (e : HeaderFault) → e ≡ made (header_fault_number e) (spot e)
made-is Cut = refl
made-is e = refl

-- the fault of a number is true, with whatever it names
abbrev IsTrueAt : (HeaderFault → Type 0) → ℕ → Type 0
IsTrueAt Holds n = (s : Spot) × Holds (made n s)

abbrev IsCleanOrFirst : (HeaderFault → Type 0) → ℕ → Type 0
IsCleanOrFirst Holds n = IsClean Holds n ⊎ ((fault : HeaderFault) × IsFirst Holds fault)

none-here : (Holds : HeaderFault → Type 0) (n : ℕ) → (¬ IsTrueAt Holds n) → (e : HeaderFault) →
    header_fault_number e ≡ n → ¬ Holds e
none-here Holds n none e is holds =
    none (spot e, subst Holds (made-is e ∙ ap (λ (k : ℕ). made k (spot e)) is) holds)

-- one row more
row : (Holds : HeaderFault → Type 0) (n : ℕ) → ((s : Spot) → header_fault_number (made n s) ≡ n) →
    Decided (IsTrueAt Holds n) → IsCleanOrFirst Holds n → IsCleanOrFirst Holds (suc n)
row Holds n named here before =
    elim before [
      | inl clean ↦ elim here [
        | inl is ↦ inr (made n is.0, (is.1, λ e lt. clean e (omega (arith, named is.0))))
        | inr none ↦ inl (clean-more Holds n clean (none-here Holds n none))
      ]
      | inr first ↦ inr first
    ]

-- a fault that names nothing
plain : {P : Type 0} → Decided P → Decided (Spot × P)
plain d = like d (λ p. (at_only 0, p)) (λ p. p.1)

-- one that names an offset or a signal alone
placed : (P : ℕ → Type 0) → Decided ((at : ℕ) × P at) → Decided ((s : Spot) × P s.at)
placed P d = like d (λ p. (at_only p.0, p.1)) (λ p. (p.0.at, p.1))

-- one that names what the file is
of-format : (b : List ℕ) (P : ℕ → Type 0) → Decided ((at : ℕ) × P at) →
    Decided ((s : Spot) × (P s.at × IsFormat b s.format))
of-format b P d =
    let f = some-format b in
    like d (λ p. (by_format p.0 f.0, (p.1, f.1))) (λ p. (p.0.at, p.1.0))

none-of : {X : Type 0} (P : X → Type 0) → Decided ((x : X) × P x) → Decided ((x : X) → ¬ P x)
none-of P d = like (negated d) (λ none x p. none (x, p)) (λ none p. none p.0 p.1)

unprintable : (b : List ℕ) → Decided ((at : ℕ) × IsFirstBad IsPrintable b at)
unprintable b =
    elim (first-bad IsPrintable fields.printable b) [
      | inl all ↦ inr (λ bad. not-bad IsPrintable 0 b bad.0 all bad.1)
      | inr bad ↦ inl bad
    ]

no-patient : (text : List ℕ) → Decided ((s : Spot) × IsPatientFault text s.patient)
no-patient text =
    elim (texts.patient-or-fault text) [
      | inl is ↦ inr (λ p. patient-no-fault text p.0.patient is p.1)
      | inr f ↦ inl (by_patient f.0, f.1)
    ]

no-recording : (text : List ℕ) → Decided ((s : Spot) × IsRecordingFault text s.recording)
no-recording text =
    elim (texts.recording-or-fault text) [
      | inl r ↦ inr (λ p. recording-no-fault text r.0 r.1 p.0.recording r.2 p.1)
      | inr f ↦ inl (by_recording f.0, f.1)
    ]

other-version : (b : List ℕ) →
    Decided ((s : Spot) × ((field b 0 8 ≢ codes "0       ") × IsFormat b s.format))
other-version b =
    of-format b (λ at. field b 0 8 ≢ codes "0       ")
    (like (negated (same-bytes (field b 0 8) (codes "0       "))) (λ p. (0, p)) (λ p. p.1))

no-startdate : (b : List ℕ) → Decided (IsNoStartdate (field b 168 8) ⊎ HasNoYear b)
no-startdate b =
    let date : List ℕ = field b 168 8 in
    either (both (none-of (IsDateText date) (some-date date)) (negated (some-yearless date)))
    (both (some-yearless date) (texts.undated (field b 88 80)))

other-by : (b : List ℕ) (s : Option ℤ) (after : List ℕ) → IsRecording (field b 88 80) s after →
    Decided (DatesAreOther b)
other-by b s after is =
    let date : List ℕ = field b 168 8 in
    elim (texts.date-form date s) [
      | inl form ↦ elim (some-startdates date s) [
        | inl are ↦ inr (same-startdates b s after are.0 is are.1)
        | inr none ↦ inl (other-startdates b s after is form (λ days are. none (days, are)))
      ]
      | inr never ↦ inr (λ differ.
          let same = (one-after (field b 88 80) (Some differ.day) s differ.after after
          differ.recording.is_startdate is.is_startdate).0 in
          never (subst (HasDateForm date) same differ.form))
    ]

other-dates : (b : List ℕ) → Decided (DatesAreOther b)
other-dates b =
    elim (texts.recording (field b 88 80)) [
      | inl r ↦ other-by b r.0 r.1 r.2
      | inr none ↦ inr (λ o. none (Some o.day, o.after, o.recording))
    ]

other-bytes : (b : List ℕ) → Decided ((n : ℕ) × HasSignals b n
    × ¬ IsNumber (field b 184 8) (256 + 256 * n))
other-bytes b =
    elim (fields.signals b) [
      | inl s ↦ elim (fields.number (field b 184 8) (256 + 256 * s.0)) [
        | inl is ↦ inr (λ o. let same : s.0 ≡ o.0 = s.1.0.value ∙ sym o.1.0.value in
            o.2 (subst (λ (n : ℕ). IsNumber (field b 184 8) (256 + 256 * n)) same is))
        | inr other ↦ inl (s.0, s.1, other)
      ]
      | inr none ↦ inr (λ o. none (o.0, o.1))
    ]

no-number : (b : List ℕ) → IsClean (FixedPartFails b) 1
no-number b Cut lt fails = omega arith
no-number b e lt fails = omega arith

-- the faults E1 to E13
pub fixed-rows : (b : List ℕ) → IsCleanOrFirst (FixedPartFails b) 14
fixed-rows b =
    row (FixedPartFails b) 13 (λ at. refl) (plain (other-bytes b))
    (row (FixedPartFails b) 12 (λ at. refl) (plain (none-of (HasSignals b) (fields.signals b)))
    (row (FixedPartFails b) 11 (λ at. refl)
    (plain (none-of (IsDuration (field b 244 8)) (texts.duration (field b 244 8))))
    (row (FixedPartFails b) 10 (λ at. refl) (plain (negated (fields.count b)))
    (row (FixedPartFails b) 9 (λ at. refl) (plain (negated (fields.plus (field b 192 44))))
    (row (FixedPartFails b) 8 (λ at. refl) (plain (other-dates b))
    (row (FixedPartFails b) 7 (λ at. refl)
    (plain (none-of (IsTimeText (field b 176 8)) (some-time (field b 176 8))))
    (row (FixedPartFails b) 6 (λ at. refl) (plain (no-startdate b))
    (row (FixedPartFails b) 5 (λ at. refl) (no-recording (field b 88 80))
    (row (FixedPartFails b) 4 (λ at. refl) (no-patient (field b 8 80))
    (row (FixedPartFails b) 3 (λ at. refl) (other-version b)
    (row (FixedPartFails b) 2 (λ at. refl)
    (of-format b (IsFirstBad IsPrintable b) (unprintable b))
    (row (FixedPartFails b) 1 (λ at. refl) (plain (less (length b) 256))
    (inl (no-number b))))))))))))))

-- and E14 to E20
unprintable-signals : (s : List ℕ) →
    Decided ((offset : ℕ) × ((at : ℕ) × IsFirstBad IsPrintable s at × (offset ≡ 256 + at)))
unprintable-signals s = like (unprintable s) (λ b. (256 + b.0, (b.0, b.1, refl)))
    (λ b. (b.1.0, b.1.1))

bad-signal : (check : Check) (ss : List (List ℕ)) →
    Decided ((signal : ℕ) × IsBadSignal check ss signal)
bad-signal check ss =
    elim (rows.checked check ss) [
      | inl all ↦ inr (λ bad. not-bad (Passes check) [] ss bad.1.0 all bad.1.1)
      | inr bad ↦ inl (bad.0 + 1, (bad.0, bad.1, refl))
    ]

bad-at : (check : Check) (ss : List (List ℕ)) → Decided ((s : Spot) × IsBadSignal check ss s.at)
bad-at check ss = placed (IsBadSignal check ss) (bad-signal check ss)

clean-14 : (s : List ℕ) (n : ℕ) → IsClean (SignalsFail s n) 14
clean-14 s n CutSignals lt fails = omega arith
clean-14 s n (UnprintableSignals at) lt fails = omega arith
clean-14 s n Annotations lt fails = omega arith
clean-14 s n (Physical at) lt fails = omega arith
clean-14 s n (Digital at) lt fails = omega arith
clean-14 s n (Samples at) lt fails = omega arith
clean-14 s n Size lt fails = omega arith
clean-14 s n e lt fails = fails

pub signal-rows : (s : List ℕ) (n : ℕ) → IsCleanOrFirst (SignalsFail s n) 21
signal-rows s n =
    row (SignalsFail s n) 20 (λ at. refl) (plain (rows.too-large (signals_of s n)))
    (row (SignalsFail s n) 19 (λ at. refl) (bad-at checks.Samples (signals_of s n))
    (row (SignalsFail s n) 18 (λ at. refl) (bad-at checks.Digital (signals_of s n))
    (row (SignalsFail s n) 17 (λ at. refl) (bad-at checks.Physical (signals_of s n))
    (row (SignalsFail s n) 16 (λ at. refl) (plain (negated (rows.annotations (signals_of s n))))
    (row (SignalsFail s n) 15 (λ at. refl) (placed (HasBadByteAt s) (unprintable-signals s))
    (row (SignalsFail s n) 14 (λ at. refl) (plain (less (length s) (256 * n)))
    (inl (clean-14 s n))))))))
