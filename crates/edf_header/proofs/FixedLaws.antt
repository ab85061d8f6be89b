-- A fixed part that bytes spell: it has no fault, is one, and keeps the bounds.
use Rattle.std.proofs.Common.{◌≡◌, ℕ, suc, ◌+◌, ◌^◌, ◌≤◌, ◌<◌, Bool, true, false, cond, List}
use Rattle.std.proofs.Common.{[], ◌∷◌, length, take, drop, arith, refl, sym, ap, ◌∙◌, subst, inl}
use Rattle.std.proofs.Common.{inr, one-add, ℤ, Option, Some, None}
use Rattle.std.specs.Prelude.{All, codes}
use Rattle.std.specs.List.{prefix_len}
use Rattle.std.specs.Char.{is_ascii_digit, digit_value}
use Rattle.std.specs.Str.Parse.{AllDigits}
use Rattle.std.proofs.lemmas.Bool.{cases_lt}
use Rattle.std.proofs.lemmas.Bool.Decides.{nat_tests}
use Rattle.std.proofs.lemmas.Int.Digits.{digits_value-lt}
use Rattle.std.proofs.lemmas.List.{length-take, length-drop}
use Rattle.std.proofs.lemmas.List.Elements.{All-take, All-drop}
use Rattle.std.proofs.Math.Nat.{pow-le-pow_right}
use Rattle.edf_time.specs.Civil.{IsCivil}
use Rattle.edf_time.proofs.Cited.{has-form, one-start, start-parts, start-two_digits}
use Rattle.edf_field.proofs.Recordings.{one-after}
use Rattle.edf_field.specs.Number.{field, whole_value, digits, digits_len, IsNumber, IsWhole}
use Rattle.edf_field.specs.Text.{IsPrintable, IsStartdate}
use Rattle.edf_header.specs.Signal.{IsFirstBad}
use Rattle.edf_header.specs.Fixed.{FixedPart, IsCount, IsCountInRange, IsFixed, IsFixedHeader}
use Rattle.edf_header.specs.Fixed.{is_dated}
use Rattle.edf_header.specs.Key.{MayStartBy}
use Rattle.edf_header.specs.Fault.{FixedPartFails, IsClean, IsFirst, header_fault_number}
use Rattle.edf_header.specs.declared.fault.HeaderFault.{HeaderFault}
use Rattle.edf_header.specs.declared.fault.HeaderFault.TheVariants.{Cut, Unprintable, Version}
use Rattle.edf_header.specs.declared.fault.HeaderFault.TheVariants.{Patient, Recording, Startdate}
use Rattle.edf_header.specs.declared.fault.HeaderFault.TheVariants.{Starttime, DatesDiffer, NotPlus}
use Rattle.edf_header.specs.declared.fault.HeaderFault.TheVariants.{Count, Duration, Signals}
use Rattle.edf_header.specs.declared.fault.HeaderFault.TheVariants.{HeaderBytes}
use Rattle.edf_field.specs.declared.fault.PatientFault.{PatientFault}
use Rattle.edf_field.specs.declared.fault.RecordingFault.{RecordingFault}
use Rattle.edf_field.proofs.Cited.{patient-no-fault, one-patient-fault}
use Rattle.edf_field.proofs.Cited.{recording-no-fault, one-recording-fault}
use Rattle.edf_header.specs.declared.format.Format.{Format}
use Rattle.edf_header.proofs.Formats.{one-format}
use Rattle.edf_header.proofs.Startdates.{has-startdate, same-startdates}

pub one-number : (text : List ℕ) (m n : ℕ) → IsNumber text m → IsNumber text n → m ≡ n
one-number text m n p q = p.value ∙ sym q.value

-- the count that a field names
pub no-number : (text : List ℕ) (n : ℕ) → text ≡ codes "-1      " → ¬ IsNumber text n
no-number text n unknown is =
    let whole = subst IsWhole unknown is.whole in
    let none : digits_len (codes "-1      ") ≡ 0 = refl in
    omega (arith, whole.0, none)

one-count : (text : List ℕ) (a b : Option ℕ) → IsCount text a → IsCount text b → a ≡ b
one-count text None None p q = refl
one-count text None (Some n) p q = absurd (no-number text n p q.0)
one-count text (Some m) None p q = absurd (no-number text m q p.0)
one-count text (Some m) (Some n) p q = ap (λ (k : ℕ). Some k) (one-number text m n p.0 q.0)

-- ---- no fault

pub no-fault : (b : List ℕ) (h : FixedPart) → IsFixedHeader b h → (e : HeaderFault) →
    ¬ FixedPartFails b e
no-fault b h f Cut bad = omega (arith, f.len)
no-fault b h f (Unprintable at format) bad = bad.0.bad 0 (f.printable at 0 bad.0.within)
no-fault b h f (Version format) bad = bad.0 f.version
no-fault b h f (Patient why) bad =
    patient-no-fault (field b 8 80) why (rw (sym f.patient) f.is_patient) bad
no-fault b h f (Recording why) bad =
    recording-no-fault (field b 88 80) h.startdate h.after why f.recording bad
no-fault b h f Startdate bad = has-startdate b h.startdate h.after f.recording
    (has-form (field b 168 8) h.startdate f.start.0 f.start.2) bad
no-fault b h f Starttime bad = bad f.start.1 f.start.3
no-fault b h f DatesDiffer bad = same-startdates b h.startdate h.after f.start.0 f.recording
    f.start.2 bad
no-fault b h f NotPlus bad = bad f.reserved
no-fault b h f Count bad = bad (h.count, f.count)
no-fault b h f Duration bad = bad f.is_duration.0 (rw (sym f.duration) f.is_duration.1)
no-fault b h f Signals bad = bad h.signal_count (f.signals, f.signals_from, f.signals_to)
no-fault b h f HeaderBytes bad =
    let same : bad.0 ≡ h.signal_count =
    one-number (field b 252 4) bad.0 h.signal_count bad.1.0 f.signals in
    bad.2 (rw same f.header_bytes)
no-fault b h f e bad = bad

pub fixed-clean : (b : List ℕ) (h : FixedPart) → IsFixedHeader b h → IsClean (FixedPartFails b) 14
fixed-clean b h f e lt = no-fault b h f e

-- ---- one fixed part

pub one-fixed : (b : List ℕ) (h g : FixedPart) → IsFixedHeader b h → IsFixedHeader b g → h ≡ g
one-fixed b h g p q =
    let recording = one-after (field b 88 80) h.startdate g.startdate h.after g.after
    p.recording.is_startdate q.recording.is_startdate in
    let patient = p.patient ∙ sym q.patient in
    let start = one-start (field b 168 8) (field b 176 8) g.startdate h.start g.start
    (subst (λ (s : Option ℤ). IsCivil (field b 168 8) (field b 176 8) s h.start) recording.0
    p.start) q.start in
    let count = one-count (field b 236 8) h.count g.count p.count q.count in
    let duration = p.duration ∙ sym q.duration in
    let signals = one-number (field b 252 4) h.signal_count g.signal_count p.signals q.signals in
    λ i. record {
      patient = patient i;
      startdate = recording.0 i;
      after = recording.1 i;
      start =
          start i;
      count = count i;
      duration = duration i;
      signal_count = signals i;
    }

-- ---- one fault

one-first-bad : (P : ℕ → Type 0) (xs : List ℕ) (a b : ℕ) → IsFirstBad P xs a → IsFirstBad P xs b →
    a ≡ b
one-first-bad P xs a b p q =
    elim (cases_lt a b) [
      | inl lt ↦ absurd (p.bad 0 (q.good a 0 (omega arith) lt))
      | inr le ↦ elim (cases_lt b a) [
        | inl lt ↦ absurd (q.bad 0 (p.good b 0 (omega arith) lt))
        | inr more ↦ omega arith
      ]
    ]

same-fixed : (b : List ℕ) (e f : HeaderFault) → header_fault_number e ≡ header_fault_number f →
    FixedPartFails b e → FixedPartFails b f → e ≡ f
same-fixed b Cut Cut same p q = refl
same-fixed b Cut f same p q = absurd (omega arith)
same-fixed b (Unprintable at format) (Unprintable other_at other) same p q =
    ap (λ (n : ℕ). Unprintable n format) (one-first-bad IsPrintable b at other_at p.0 q.0)
    ∙ ap (λ (f : Format). Unprintable other_at f) (one-format b format other p.1 q.1)
same-fixed b (Unprintable at format) f same p q = absurd (omega arith)
same-fixed b (Version format) (Version other) same p q =
    ap (λ (f : Format). Version f) (one-format b format other p.1 q.1)
same-fixed b (Version format) f same p q = absurd (omega arith)
same-fixed b (Patient why) (Patient other) same p q =
    ap (λ (f : PatientFault). Patient f) (one-patient-fault (field b 8 80) why other p q)
same-fixed b (Patient why) f same p q = absurd (omega arith)
same-fixed b (Recording why) (Recording other) same p q =
    ap (λ (f : RecordingFault). Recording f) (one-recording-fault (field b 88 80) why other p q)
same-fixed b (Recording why) f same p q = absurd (omega arith)
same-fixed b Startdate Startdate same p q = refl
same-fixed b Startdate f same p q = absurd (omega arith)
same-fixed b Starttime Starttime same p q = refl
same-fixed b Starttime f same p q = absurd (omega arith)
same-fixed b DatesDiffer DatesDiffer same p q = refl
same-fixed b DatesDiffer f same p q = absurd (omega arith)
same-fixed b NotPlus NotPlus same p q = refl
same-fixed b NotPlus f same p q = absurd (omega arith)
same-fixed b Count Count same p q = refl
same-fixed b Count f same p q = absurd (omega arith)
same-fixed b Duration Duration same p q = refl
same-fixed b Duration f same p q = absurd (omega arith)
same-fixed b Signals Signals same p q = refl
same-fixed b Signals f same p q = absurd (omega arith)
same-fixed b HeaderBytes HeaderBytes same p q = refl
same-fixed b HeaderBytes f same p q = absurd (omega arith)
same-fixed b e f same p q = absurd p

same-number : (b : List ℕ) (e f : HeaderFault) → IsFirst (FixedPartFails b) e →
    IsFirst (FixedPartFails b) f → header_fault_number e ≡ header_fault_number f
same-number b e f p q =
    elim (cases_lt (header_fault_number e) (header_fault_number f)) [
      | inl lt ↦ absurd (q.1 e lt p.0)
      | inr le ↦ elim (cases_lt (header_fault_number f) (header_fault_number e)) [
        | inl lt ↦ absurd (p.1 f lt q.0)
        | inr more ↦ omega arith
      ]
    ]

pub one-fault : (b : List ℕ) (e f : HeaderFault) → IsFirst (FixedPartFails b) e →
    IsFirst (FixedPartFails b) f → e ≡ f
one-fault b e f p q = same-fixed b e f (same-number b e f p q) p.0 q.0

-- ---- the bounds

length-field : (b : List ℕ) (at len : ℕ) → at + len ≤ length b → length (field b at len) ≡ len
length-field b at len fits = omega (arith, length-take len (drop at b), length-drop at b)

All-field : (P : ℕ → Type 0) (b : List ℕ) (at len : ℕ) → All P b → All P (field b at len)
All-field P b at len all = All-take P len (drop at b) (All-drop P at b all)

digit-value : (b : ℕ) → is_ascii_digit b ≡ true → digit_value b < 10
digit-value b h = grind (arith, nat_tests)

digit-more : (x : ℕ) (xs : List ℕ) (d : Bool) → is_ascii_digit x ≡ d → AllDigits 10 (digits xs) →
    AllDigits 10 (digits (x ∷ xs))
digit-more x xs true e more =
    let n : prefix_len is_ascii_digit (x ∷ xs) ≡ suc (digits_len xs) =
    ap (λ (d : Bool). cond d (1 + digits_len xs) 0) e ∙ one-add (digits_len xs) in
    subst (λ (k : ℕ). AllDigits 10 (take k (x ∷ xs))) (sym n) (digit-value x e, more)
digit-more x xs false e more =
    let n : prefix_len is_ascii_digit (x ∷ xs) ≡ 0 =
    ap (λ (d : Bool). cond d (1 + digits_len xs) 0) e in
    subst (λ (k : ℕ). AllDigits 10 (take k (x ∷ xs))) (sym n) tt

digits-all : (text : List ℕ) → AllDigits 10 (digits text)
digits-all [] = tt
digits-all (x ∷ xs) = digit-more x xs (is_ascii_digit x) refl (digits-all xs)

whole-fits : (text : List ℕ) → length text ≤ 8 → whole_value text < 100_000_000
whole-fits text short =
    let lt = digits_value-lt 10 (digits text) (digits-all text) in
    let few : length (digits text) ≤ 8 = omega (arith, length-take (digits_len text) text) in
    let ten : 0 < 10 = omega arith in
    let most : 10 ^ length (digits text) ≤ 10 ^ 8 = pow-le-pow_right ten few in
    omega (arith, lt, most)

count-range : (text : List ℕ) (count : Option ℕ) → length text ≤ 8 → IsCount text count →
    IsCountInRange count
count-range text None short is = (omega arith, omega arith)
count-range text (Some n) short is = (is.1, omega (arith, is.0.value, whole-fits text short))

after-len : (f : List ℕ) (s : Option ℤ) (after : List ℕ) → length f ≡ 80 → IsStartdate f s after →
    length after ≡ cond (is_dated s) 59 69
after-len f None after len p = ap length p.1 ∙ omega (arith, length-drop 11 f)
after-len f (Some day) after len p = ap length p.2 ∙ omega (arith, length-drop 21 f)

after-printable : (f : List ℕ) (s : Option ℤ) (after : List ℕ) → All IsPrintable f →
    IsStartdate f s after → All IsPrintable after
after-printable f None after all p = rw p.1 (All-drop IsPrintable 11 f all)
after-printable f (Some day) after all p = rw p.2 (All-drop IsPrintable 21 f all)

-- without a date in the Startdate subfield two digits name the year
undated-start : (date time : List ℕ) (s : Option ℤ) (start : ℕ) → IsCivil date time s start →
    MayStartBy (is_dated s) start
undated-start date time None start is undated = start-two_digits date time start is
undated-start date time (Some day) start is undated =
    absurd (let never : true ≡ false = undated in cc)

pub is-fixed : (b : List ℕ) (h : FixedPart) → IsFixedHeader b h → IsFixed h
is-fixed b h f = record {
  patient_len = ap length f.patient ∙ length-field b 8 80 (omega (arith, f.len));
  patient_printable = rw f.patient (All-field IsPrintable b 8 80 f.printable);
  is_patient = f.is_patient;
  after_len = after-len (field b 88 80) h.startdate h.after
      (length-field b 88 80 (omega (arith, f.len))) f.recording.is_startdate;
  after_printable = after-printable (field b 88 80) h.startdate h.after
      (All-field IsPrintable b 88 80 f.printable) f.recording.is_startdate;
  is_after = f.recording.rest;
  in_window = (start-parts (field b 168 8) (field b 176 8) h.startdate h.start f.start).in_window;
  may_start = undated-start (field b 168 8) (field b 176 8) h.startdate h.start f.start;
  whole_second = omega (arith, f.start.4);
  count = count-range (field b 236 8) h.count
      (omega (arith, length-field b 236 8 (omega (arith, f.len)))) f.count;
  duration_len = ap length f.duration ∙ length-field b 244 8 (omega (arith, f.len));
  duration_printable = rw f.duration (All-field IsPrintable b 244 8 f.printable);
  is_duration = f.is_duration;
  signals_from = f.signals_from;
  signals_to = f.signals_to;
}
