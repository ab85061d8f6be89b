-- Bytes that have none of the faults begin with a header.
use Rattle.std.proofs.Common.{◌≡◌, ℕ, ◌+◌, ◌*◌, ◌^◌, ◌≤◌, ◌<◌, List, ◌++◌, length, take, drop}
use Rattle.std.proofs.Common.{arith, refl, sym, ap, ◌∙◌, subst, inl, inr}
use Rattle.std.specs.Prelude.{All, ◌⊎◌, codes}
use Rattle.std.proofs.lemmas.List.{length-take, take-append-drop}
use Rattle.edf_time.specs.Civil.{AreStartdates, HasDateForm, IsTimeText}
use Rattle.edf_field.specs.Number.{field, IsDuration, IsNumber}
use Rattle.edf_field.specs.Text.{IsPrintable, IsPatient}
use Rattle.edf_header.specs.Signal.{IsFirstBad, Passes, signals_of}
use Rattle.edf_header.specs.Header.{AreSignals, HeaderRecord, IsHeader}
use Rattle.edf_header.specs.Fixed.{FixedPart, IsFixedHeader}
use Rattle.edf_header.specs.Inside.Rows.{header_of}
use Rattle.edf_header.specs.Fault.{FixedPartFails, IsClean, IsHeaderFault}
use Rattle.edf_header.specs.Condition.{HasSignals, IsBadSignal}
use Rattle.edf_header.specs.Fault.{SignalsFail}
use Rattle.edf_header.specs.declared.signal_checks.Check.{Check}
use Rattle.edf_header.specs.declared.signal_checks.Check.TheVariants as checks
use Rattle.edf_header.specs.declared.fault.HeaderFault.{HeaderFault}
use Rattle.edf_header.specs.declared.fault.HeaderFault.TheVariants.{Cut, Unprintable, Version}
use Rattle.edf_header.specs.declared.fault.HeaderFault.TheVariants.{Patient, Recording, Startdate}
use Rattle.edf_header.specs.declared.fault.HeaderFault.TheVariants.{Starttime, DatesDiffer, NotPlus}
use Rattle.edf_header.specs.declared.fault.HeaderFault.TheVariants.{Count, Duration, Signals}
use Rattle.edf_header.specs.declared.fault.HeaderFault.TheVariants.{HeaderBytes, CutSignals}
use Rattle.edf_header.specs.declared.fault.HeaderFault.TheVariants.{UnprintableSignals, Annotations}
use Rattle.edf_header.specs.declared.fault.HeaderFault.TheVariants.{Physical, Digital, Samples}
use Rattle.edf_header.specs.declared.fault.HeaderFault.TheVariants.{Size}
use Rattle.edf_header.proofs.HeaderFaults.{sound-is}
use Rattle.edf_header.proofs.Headers.{are-signals}
use Rattle.edf_header.proofs.SpelledOnce.{number-at}
use Rattle.edf_header.proofs.Decided.{Decided, held, same-bytes, first-bad}
use Rattle.edf_header.proofs.DecidedFields as fields
use Rattle.edf_time.proofs.Cited.{some-startdates, some-time}
use Rattle.edf_header.proofs.DecidedTexts as texts
use Rattle.edf_header.proofs.DecidedSignals as rows
use Rattle.edf_header.proofs.Formats.{some-format}
use Rattle.edf_header.proofs.FirstFault.{fixed-rows, signal-rows}
use Rattle.edf_header.proofs.Startdates.{no-startdate, other-startdates}

all-printable : (b : List ℕ) → ((at : ℕ) → ¬ IsFirstBad IsPrintable b at) → All IsPrintable b
all-printable b none =
    elim (first-bad IsPrintable fields.printable b) [
      | inl all ↦ all
      | inr bad ↦ absurd (none bad.0 bad.1)
    ]

some-of : {X : Type 0} (P : X → Type 0) → Decided ((x : X) × P x) → (¬ ((x : X) → ¬ P x)) → (x : X)
    × P x
some-of P d not-none = held d (λ none. not-none (λ x p. none (x, p)))

has-patient : (b : List ℕ) → IsClean (FixedPartFails b) 14 → IsPatient (field b 8 80)
has-patient b clean =
    elim (texts.patient-or-fault (field b 8 80)) [
      | inl is ↦ is
      | inr f ↦ absurd (clean (Patient f.0) (omega arith) f.1)
    ]

has-recording : (b : List ℕ) → IsClean (FixedPartFails b) 14 →
    texts.HasRecording (field b 88 80)
has-recording b clean =
    elim (texts.recording-or-fault (field b 88 80)) [
      | inl is ↦ is
      | inr f ↦ absurd (clean (Recording f.0) (omega arith) f.1)
    ]

fixed-part : (b : List ℕ) → length b ≤ 256 → IsClean (FixedPartFails b) 14 → (h : FixedPart)
    × IsFixedHeader b h
fixed-part b le clean =
    let format = some-format b in
    let recording : texts.HasRecording (field b 88 80) = has-recording b clean in
    let form : HasDateForm (field b 168 8) recording.0 =
    held (texts.date-form (field b 168 8) recording.0)
    (λ none. clean Startdate (omega arith)
    (no-startdate b recording.0 recording.1 recording.2 none)) in
    let date : (days : ℕ) × AreStartdates (field b 168 8) recording.0 days =
    held (some-startdates (field b 168 8) recording.0)
    (λ none. clean DatesDiffer (omega arith)
    (other-startdates b recording.0 recording.1 recording.2 form
    (λ days are. none (days, are)))) in
    let time : (seconds : ℕ) × IsTimeText (field b 176 8) seconds =
    some-of (IsTimeText (field b 176 8)) (some-time (field b 176 8))
    (clean Starttime (omega arith)) in
    let count = held (fields.count b) (clean Count (omega arith)) in
    let signals : (n : ℕ) × HasSignals b n =
    some-of (HasSignals b) (fields.signals b) (clean Signals (omega arith)) in (
      record {
        patient = field b 8 80;
        startdate = recording.0;
        after = recording.1;
        start = (date.0 * 86_400 + time.0) * 10 ^ 9;
        count = count.0;
        duration = field b 244 8;
        signal_count = signals.0;
      },
      record {
        len = let long : ¬ (length b < 256) = clean Cut (omega arith) in omega (arith, long);
        printable = all-printable b (λ at bad.
            clean (Unprintable at format.0) (omega arith) (bad, format.1));
        version = held (same-bytes (field b 0 8) (codes "0       "))
            (λ other. clean (Version format.0) (omega arith) (other, format.1));
        patient = refl;
        is_patient = has-patient b clean;
        recording = recording.2;
        start = (date.0, time.0, date.1, time.1, refl);
        header_bytes = held (fields.number (field b 184 8) (256 + 256 * signals.0))
            (λ other. clean HeaderBytes (omega arith) (signals.0, signals.1, other));
        reserved = held (fields.plus (field b 192 44)) (clean NotPlus (omega arith));
        count = count.1;
        duration = refl;
        is_duration = some-of (IsDuration (field b 244 8)) (texts.duration (field b 244 8))
            (clean Duration (omega arith));
        signals = signals.1.0;
        signals_from = signals.1.1;
        signals_to = signals.1.2;
      },
    )

all-pass : (check : Check) (ss : List (List ℕ)) → ((signal : ℕ) → ¬ IsBadSignal check ss signal) →
    All (Passes check) ss
all-pass check ss none =
    elim (rows.checked check ss) [
      | inl all ↦ all
      | inr bad ↦ absurd (none (bad.0 + 1) (bad.0, bad.1, refl))
    ]

signal-part : (s : List ℕ) (f : FixedPart) → length s ≤ 256 * f.signal_count →
    IsClean (SignalsFail s f.signal_count) 21 →
    AreSignals s (header_of f (signals_of s f.signal_count))
signal-part s f le clean =
    let ss : List (List ℕ) = signals_of s f.signal_count in
    let long : ¬ (length s < 256 * f.signal_count) = clean CutSignals (omega arith) in
    let printable : All IsPrintable s =
    all-printable s (λ at bad. clean (UnprintableSignals (256 + at)) (omega arith) (
      at,
      bad,
      refl,
    )) in
    let annotations = held (rows.annotations ss) (clean Annotations (omega arith)) in
    let physical = all-pass checks.Physical ss (λ k. clean (Physical k) (omega arith)) in
    let digital = all-pass checks.Digital ss (λ k. clean (Digital k) (omega arith)) in
    let samples = all-pass checks.Samples ss (λ k. clean (Samples k) (omega arith)) in
    are-signals s f (signals_of s f.signal_count) refl (omega (arith, long)) printable
    (sound-is ss annotations physical digital samples (clean Size (omega arith)))

parts : (b : List ℕ) (k : ℕ) → b ≡ take 256 b ++ (field b 256 k ++ drop k (drop 256 b))
parts b k = sym (ap (λ (l : List ℕ). take 256 b ++ l) (take-append-drop k (drop 256 b))
    ∙ take-append-drop 256 b)

has-signals : (b : List ℕ) (n : ℕ) → HasSignals (take 256 b) n → HasSignals b n
has-signals b n has = (
  subst (λ (l : List ℕ). IsNumber l n) (number-at b 252 4 (omega arith)) has.0,
  has.1,
  has.2,
)

-- bytes begin with a header, or have a fault of one
abbrev HasHeader : List ℕ → Type 0
HasHeader b = (h : HeaderRecord) × (rest : List ℕ) × IsHeader b h rest

abbrev HasFault : List ℕ → Type 0
HasFault b = (fault : HeaderFault) × IsHeaderFault b fault

after-fixed : (b : List ℕ) → IsClean (FixedPartFails (take 256 b)) 14 → (f : FixedPart) →
    IsFixedHeader (take 256 b) f → HasHeader b ⊎ HasFault b
after-fixed b clean f is =
    let n : ℕ = f.signal_count in
    let s : List ℕ = field b 256 (256 * n) in
    elim (signal-rows s n) [
      | inl good ↦
          let signals = signal-part s f (omega (arith, length-take (256 * n) (drop 256 b))) good in
          inl (
            header_of f (signals_of s n),
            drop (256 * n) (drop 256 b),
            record {
              first = take 256 b;
              second = s;
              parts = parts b (256 * n);
              fixed = is;
              signals = signals;
            },
          )
      | inr first ↦ inr (
        first.0,
        inr (
          n,
          clean,
          has-signals b n (is.signals, is.signals_from, is.signals_to),
          first.1,
        ),
      )
    ]

pub header-or-fault : (b : List ℕ) → HasHeader b ⊎ HasFault b
header-or-fault b =
    elim (fixed-rows (take 256 b)) [
      | inl clean ↦
          let f = fixed-part (take 256 b) (omega (arith, length-take 256 b)) clean in
          after-fixed b clean f.0 f.1
      | inr first ↦ inr (first.0, inl first.1)
    ]
