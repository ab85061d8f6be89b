-- Bytes begin with one header, or have one fault.
use Rattle.std.proofs.Common.{◌≡◌, ℕ, ◌+◌, ◌-◌, ◌*◌, ◌≤◌, ◌<◌, List, [], ◌++◌, take, drop, inl, inr}
use Rattle.std.proofs.Common.{refl, sym, ap, ◌∙◌, subst, arith}
use Rattle.std.proofs.lemmas.Bool.{cases_lt}
use Rattle.std.proofs.lemmas.List.{drop-take, take-take}
use Rattle.edf_field.specs.Number.{field, IsNumber}
use Rattle.edf_field.specs.Text.{IsPrintable}
use Rattle.edf_header.specs.Signal.{signals_of, Passes, IsFirstBad}
use Rattle.edf_header.specs.Header.{HeaderRecord, AreSignals, IsHeader}
use Rattle.edf_header.specs.Fixed.{FixedPart, IsFixedHeader}
use Rattle.edf_header.specs.Fault.{FixedPartFails, SignalsFail, IsFirst}
use Rattle.edf_header.specs.Condition.{HasSignals, IsBadSignal}
use Rattle.edf_header.specs.Fault.{IsHeaderFault, header_fault_number}
use Rattle.edf_header.specs.declared.signal_checks.Check.{Check}
use Rattle.edf_header.specs.declared.signal_checks.Check.TheVariants as checks
use Rattle.edf_header.specs.declared.fault.HeaderFault.{HeaderFault}
use Rattle.edf_header.specs.declared.fault.HeaderFault.TheVariants.{Cut, Unprintable, Version}
use Rattle.edf_header.specs.declared.fault.HeaderFault.TheVariants.{Patient, Recording, Startdate}
use Rattle.edf_header.specs.declared.fault.HeaderFault.TheVariants.{Starttime, DatesDiffer, NotPlus}
use Rattle.edf_header.specs.declared.fault.HeaderFault.TheVariants.{Count, Duration, Signals}
use Rattle.edf_header.specs.declared.fault.HeaderFault.TheVariants.{HeaderBytes, CutSignals}
use Rattle.edf_header.specs.declared.fault.HeaderFault.TheVariants.{UnprintableSignals, Annotations}
use Rattle.edf_header.specs.declared.fault.HeaderFault.TheVariants.{Physical, Digital, Samples}
use Rattle.edf_header.specs.declared.fault.HeaderFault.TheVariants.{Size}
use Rattle.edf_header.proofs.FixedLaws.{no-fault, one-fixed, one-fault, one-number}
use Rattle.edf_header.proofs.SignalLaws.{one-signals, signals-clean}
use Rattle.edf_header.proofs.SpelledParts.{IsPartAt, part-here}

-- where the two parts of a header are
pub record ArePlaced (b first second rest : List ℕ) (n : ℕ) : Type 0 where
  pub fixed : take 256 b ≡ first
  pub signals : field b 256 (256 * n) ≡ second
  pub rest_is : drop (256 + 256 * n) b ≡ rest

pub placed : (b : List ℕ) (h : HeaderRecord) (r : List ℕ) → (i : IsHeader b h r) →
    ArePlaced b i.first i.second r h.fixed.signal_count
placed b h r i =
    let one : IsPartAt b i.first (i.second ++ r) 0 256 =
    part-here b i.first (i.second ++ r) 0 256 i.parts i.fixed.len in
    let two : IsPartAt b i.second r 256 (256 * h.fixed.signal_count) =
    part-here b i.second r 256 (256 * h.fixed.signal_count) one.rest i.signals.len in
    record { fixed = one.here; signals = two.here; rest_is = two.rest }

pub one-header : (b : List ℕ) (h g : HeaderRecord) (r s : List ℕ) → IsHeader b h r →
    IsHeader b g s → (h ≡ g) × (r ≡ s)
one-header b h g r s i j =
    let p = placed b h r i in
    let q = placed b g s j in
    let first : i.first ≡ j.first = sym p.fixed ∙ q.fixed in
    let fixed : h.fixed ≡ g.fixed =
    one-fixed j.first h.fixed g.fixed (subst (λ (l : List ℕ). IsFixedHeader l h.fixed) first
    i.fixed) j.fixed in
    let n : h.fixed.signal_count ≡ g.fixed.signal_count =
    ap (λ (f : FixedPart). f.signal_count) fixed in
    let second : i.second ≡ j.second = sym p.signals ∙ ap (λ (n : ℕ). field b 256 (256 * n)) n
    ∙ q.signals in
    let rest : r ≡ s = sym p.rest_is ∙ ap (λ (n : ℕ). drop (256 + 256 * n) b) n ∙ q.rest_is in (
      one-signals j.second h g (subst (λ (l : List ℕ). AreSignals l h) second i.signals) j.signals
          fixed,
      rest,
    )

-- ---- a header has no fault

pub number-at : (b : List ℕ) (at n : ℕ) → at + n ≤ 256 → field (take 256 b) at n ≡ field b at n
number-at b at n fits =
    let whole : 256 ≡ at + (256 - at) = omega arith in
    let small : n ≤ 256 - at = omega arith in
    ap (λ (k : ℕ). field (take k b) at n) whole ∙ ap (take n) (drop-take at (256 - at) b)
    ∙ take-take n (256 - at) (drop at b) small

-- the number of signals that the fixed part names
same-count : (b : List ℕ) (h : HeaderRecord) (r : List ℕ) (n : ℕ) → (i : IsHeader b h r) →
    HasSignals b n → n ≡ h.fixed.signal_count
same-count b h r n i has =
    let p = placed b h r i in
    let text : field i.first 252 4 ≡ field b 252 4 =
    ap (λ (l : List ℕ). field l 252 4) (sym p.fixed) ∙ number-at b 252 4 (omega arith) in
    one-number (field b 252 4) n h.fixed.signal_count has.0
    (subst (λ (l : List ℕ). IsNumber l h.fixed.signal_count) text i.fixed.signals)

-- a fault of the signal part has a number below 21
signals-below : (s : List ℕ) (n : ℕ) (e : HeaderFault) → SignalsFail s n e →
    header_fault_number e < 21
signals-below s n CutSignals fails = omega arith
signals-below s n (UnprintableSignals offset) fails = omega arith
signals-below s n Annotations fails = omega arith
signals-below s n (Physical signal) fails = omega arith
signals-below s n (Digital signal) fails = omega arith
signals-below s n (Samples signal) fails = omega arith
signals-below s n Size fails = omega arith
signals-below s n e fails = absurd fails

signals-no-fault : (s : List ℕ) (h : HeaderRecord) (e : HeaderFault) → AreSignals s h →
    ¬ SignalsFail s h.fixed.signal_count e
signals-no-fault s h e i fails =
    signals-clean s h i e (signals-below s h.fixed.signal_count e fails) fails

pub header-no-fault : (b : List ℕ) (h : HeaderRecord) (r : List ℕ) (e : HeaderFault) →
    IsHeader b h r → ¬ IsHeaderFault b e
header-no-fault b h r e i fault =
    let p = placed b h r i in
    elim fault [
      | inl first ↦ no-fault i.first h.fixed i.fixed e
          (subst (λ (l : List ℕ). FixedPartFails l e) p.fixed first.0)
      | inr later ↦
          let n : later.0 ≡ h.fixed.signal_count = same-count b h r later.0 i later.2 in
          let second : field b 256 (256 * later.0) ≡ i.second =
          ap (λ (n : ℕ). field b 256 (256 * n)) n ∙ p.signals in
          signals-no-fault i.second h e i.signals
          (subst (λ (l : List ℕ). SignalsFail l h.fixed.signal_count e) second
          (subst (λ (m : ℕ). SignalsFail (field b 256 (256 * later.0)) m e) n later.3.0))
    ]

-- ---- one fault

pub one-first-bad : {X : Type 0} (P : X → Type 0) (d : X) (xs : List X) (a b : ℕ) →
    IsFirstBad P xs a → IsFirstBad P xs b → a ≡ b
one-first-bad P d xs a b p q =
    elim (cases_lt a b) [
      | inl lt ↦ absurd (p.bad d (q.good a d (omega arith) lt))
      | inr le ↦ elim (cases_lt b a) [
        | inl lt ↦ absurd (q.bad d (p.good b d (omega arith) lt))
        | inr more ↦ omega arith
      ]
    ]

same-number : (Holds : HeaderFault → Type 0) (e f : HeaderFault) → IsFirst Holds e →
    IsFirst Holds f → header_fault_number e ≡ header_fault_number f
same-number Holds e f p q =
    elim (cases_lt (header_fault_number e) (header_fault_number f)) [
      | inl lt ↦ absurd (q.1 e lt p.0)
      | inr le ↦ elim (cases_lt (header_fault_number f) (header_fault_number e)) [
        | inl lt ↦ absurd (p.1 f lt q.0)
        | inr more ↦ omega arith
      ]
    ]

pub one-bad-signal : (check : Check) (ss : List (List ℕ)) (a b : ℕ) → IsBadSignal check ss a →
    IsBadSignal check ss b → a ≡ b
one-bad-signal check ss a b p q = p.2
    ∙ ap (λ (n : ℕ). n + 1) (one-first-bad (Passes check) [] ss p.0 q.0 p.1 q.1) ∙ sym q.2

same-fault : (s : List ℕ) (n : ℕ) (e f : HeaderFault) →
    header_fault_number e ≡ header_fault_number f → SignalsFail s n e → SignalsFail s n f → e ≡ f
same-fault s n CutSignals CutSignals same p q = refl
same-fault s n CutSignals f same p q = absurd (omega arith)
same-fault s n (UnprintableSignals a) (UnprintableSignals b) same p q =
    ap (λ (o : ℕ). UnprintableSignals o) (p.2
    ∙ ap (λ (at : ℕ). 256 + at) (one-first-bad IsPrintable 0 s p.0 q.0 p.1 q.1) ∙ sym q.2)
same-fault s n (UnprintableSignals a) f same p q = absurd (omega arith)
same-fault s n Annotations Annotations same p q = refl
same-fault s n Annotations f same p q = absurd (omega arith)
same-fault s n (Physical a) (Physical b) same p q =
    ap (λ (o : ℕ). Physical o) (one-bad-signal checks.Physical (signals_of s n) a b p q)
same-fault s n (Physical a) f same p q = absurd (omega arith)
same-fault s n (Digital a) (Digital b) same p q =
    ap (λ (o : ℕ). Digital o) (one-bad-signal checks.Digital (signals_of s n) a b p q)
same-fault s n (Digital a) f same p q = absurd (omega arith)
same-fault s n (Samples a) (Samples b) same p q =
    ap (λ (o : ℕ). Samples o) (one-bad-signal checks.Samples (signals_of s n) a b p q)
same-fault s n (Samples a) f same p q = absurd (omega arith)
same-fault s n Size Size same p q = refl
same-fault s n Size f same p q = absurd (omega arith)
same-fault s n e f same p q = absurd p

pub one-signals-fault : (s : List ℕ) (n : ℕ) (e f : HeaderFault) → IsFirst (SignalsFail s n) e →
    IsFirst (SignalsFail s n) f → e ≡ f
one-signals-fault s n e f p q = same-fault s n e f (same-number (SignalsFail s n) e f p q) p.0 q.0

-- a fault of the fixed part has a number below 14
fails-below : (b : List ℕ) (e : HeaderFault) → FixedPartFails b e → header_fault_number e < 14
fails-below b Cut fails = omega arith
fails-below b (Unprintable at format) fails = omega arith
fails-below b (Version format) fails = omega arith
fails-below b (Patient why) fails = omega arith
fails-below b (Recording why) fails = omega arith
fails-below b Startdate fails = omega arith
fails-below b Starttime fails = omega arith
fails-below b DatesDiffer fails = omega arith
fails-below b NotPlus fails = omega arith
fails-below b Count fails = omega arith
fails-below b Duration fails = omega arith
fails-below b Signals fails = omega arith
fails-below b HeaderBytes fails = omega arith
fails-below b e fails = absurd fails

pub one-header-fault : (b : List ℕ) (e f : HeaderFault) → IsHeaderFault b e → IsHeaderFault b f →
    e ≡ f
one-header-fault b e f p q =
    let fixed : List ℕ = take 256 b in
    elim p [
      | inl one ↦ elim q [
        | inl other ↦ one-fault fixed e f one other
        | inr later ↦ absurd (later.1 e (fails-below fixed e one.0) one.0)
      ]
      | inr one ↦ elim q [
        | inl other ↦ absurd (one.1 f (fails-below fixed f other.0) other.0)
        | inr later ↦
            let n : later.0 ≡ one.0 = one-number (field b 252 4) later.0 one.0 later.2.0 one.2.0 in
            one-signals-fault (field b 256 (256 * one.0)) one.0 e f one.3
            (subst (λ (m : ℕ). IsFirst (SignalsFail (field b 256 (256 * m)) m) f) n later.3)
      ]
    ]
