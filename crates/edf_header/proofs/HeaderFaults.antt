-- The faults of the signal part, one row after another.
use Rattle.std.proofs.Common.{◌≡◌, ℕ, ◌+◌, ◌*◌, Bool, true, false, not, List, [], length, arith}
use Rattle.std.proofs.Common.{refl, sym, ap, subst, inl, inr, Option, None, Some, ◌∙◌}
use Rattle.std.proofs.lemmas.Bool.{cases_lt, false≢true}
use Rattle.std.specs.Prelude.{◌⊎◌, ◌↔◌, All, IsTrue, MatchOption, is_some}
use Rattle.edf_field.specs.Text.{IsPrintable}
use Rattle.edf_header.specs.Signal.{Passes, labelled, ordinary, samples_in_all, signals_of}
use Rattle.edf_header.specs.Inside.Rows.{RowsFail, AreSoundRows}
use Rattle.edf_header.specs.Fault.{SignalsFail, IsClean}
use Rattle.edf_header.specs.Condition.{HasAnnotations, IsBadSignal, IsTooLarge}
use Rattle.edf_header.specs.Fault.{IsFirst, header_fault_number}
use Rattle.edf_header.specs.declared.signal_checks.Check.{Check}
use Rattle.edf_header.specs.declared.signal_checks.Check.TheVariants as checks
use Rattle.edf_header.specs.declared.fault.HeaderFault.{HeaderFault}
use Rattle.edf_header.specs.declared.limits.TheConstants.{MOST_BLOCK_BYTES}
use Rattle.edf_header.specs.declared.fault.HeaderFault.TheVariants.{CutSignals, UnprintableSignals}
use Rattle.edf_header.specs.declared.fault.HeaderFault.TheVariants.{Annotations, Physical, Digital}
use Rattle.edf_header.specs.declared.fault.HeaderFault.TheVariants.{Samples, Size}
use Rattle.edf_header.proofs.Faults.{not-bad}
use Rattle.edf_header.proofs.SignalKinds.{annotations-pass, has-annotations, kinds-count}

-- no fault has a lower number
pub clean-16 : (ss : List (List ℕ)) → IsClean (RowsFail ss) 16
clean-16 ss Annotations lt bad = absurd (omega arith)
clean-16 ss (Physical signal) lt bad = absurd (omega arith)
clean-16 ss (Digital signal) lt bad = absurd (omega arith)
clean-16 ss (Samples signal) lt bad = absurd (omega arith)
clean-16 ss Size lt bad = absurd (omega arith)
clean-16 ss e lt bad = bad

more : (P : HeaderFault → Type 0) (n : ℕ) → IsClean P n →
    ((e : HeaderFault) → header_fault_number e ≡ n → ¬ P e) → IsClean P (n + 1)
more P n clean here e lt bad =
    elim (cases_lt (header_fault_number e) n) [
      | inl below ↦ clean e below bad
      | inr le ↦ here e (omega arith) bad
    ]

good : (check : Check) (ss : List (List ℕ)) (signal : ℕ) → All (Passes check) ss →
    ¬ IsBadSignal check ss signal
good check ss signal all bad = not-bad (Passes check) [] ss bad.0 all bad.1

at-16 : (ss : List (List ℕ)) → HasAnnotations ss → (e : HeaderFault) → header_fault_number e ≡ 16 →
    ¬ RowsFail ss e
at-16 ss h Annotations eq bad = bad h
at-16 ss h e eq bad = absurd (omega arith)

at-17 : (ss : List (List ℕ)) → All (Passes checks.Physical) ss → (e : HeaderFault) →
    header_fault_number e ≡ 17 → ¬ RowsFail ss e
at-17 ss all (Physical signal) eq bad = good checks.Physical ss signal all bad
at-17 ss all e eq bad = absurd (omega arith)

at-18 : (ss : List (List ℕ)) → All (Passes checks.Digital) ss → (e : HeaderFault) →
    header_fault_number e ≡ 18 → ¬ RowsFail ss e
at-18 ss all (Digital signal) eq bad = good checks.Digital ss signal all bad
at-18 ss all e eq bad = absurd (omega arith)

at-19 : (ss : List (List ℕ)) → All (Passes checks.Samples) ss → (e : HeaderFault) →
    header_fault_number e ≡ 19 → ¬ RowsFail ss e
at-19 ss all (Samples signal) eq bad = good checks.Samples ss signal all bad
at-19 ss all e eq bad = absurd (omega arith)

at-20 : (ss : List (List ℕ)) → ¬ IsTooLarge ss → (e : HeaderFault) → header_fault_number e ≡ 20 →
    ¬ RowsFail ss e
at-20 ss small Size eq bad = small bad
at-20 ss small e eq bad = absurd (omega arith)

pub clean-17 : (ss : List (List ℕ)) → HasAnnotations ss → IsClean (RowsFail ss) 17
clean-17 ss h = more (RowsFail ss) 16 (clean-16 ss) (at-16 ss h)

pub clean-18 : (ss : List (List ℕ)) → HasAnnotations ss → All (Passes checks.Physical) ss →
    IsClean (RowsFail ss) 18
clean-18 ss h p = more (RowsFail ss) 17 (clean-17 ss h) (at-17 ss p)

pub clean-19 : (ss : List (List ℕ)) → HasAnnotations ss → All (Passes checks.Physical) ss →
    All (Passes checks.Digital) ss → IsClean (RowsFail ss) 19
clean-19 ss h p d = more (RowsFail ss) 18 (clean-18 ss h p) (at-18 ss d)

pub clean-20 : (ss : List (List ℕ)) → HasAnnotations ss → All (Passes checks.Physical) ss →
    All (Passes checks.Digital) ss → All (Passes checks.Samples) ss → IsClean (RowsFail ss) 20
clean-20 ss h p d n = more (RowsFail ss) 19 (clean-19 ss h p d) (at-19 ss n)

not-large : (ss : List (List ℕ)) → AreSoundRows ss → ¬ IsTooLarge ss
not-large ss s large =
    elim large [
      | inl ordinary ↦ omega (arith, s.ordinary_size)
      | inr annotations ↦ omega (arith, s.block_size)
    ]

pub clean-21 : (ss : List (List ℕ)) → AreSoundRows ss → IsClean (RowsFail ss) 21
clean-21 ss s = more (RowsFail ss) 20
    (clean-20 ss s.annotations s.physical s.digital s.each_samples) (at-20 ss (not-large ss s))

-- sizes that are not too large
pub sound-is : (ss : List (List ℕ)) → HasAnnotations ss → All (Passes checks.Physical) ss →
    All (Passes checks.Digital) ss → All (Passes checks.Samples) ss → ¬ IsTooLarge ss →
    AreSoundRows ss
sound-is ss h p d n small = record {
  annotations = h;
  physical = p;
  digital = d;
  each_samples = n;
  ordinary_size = elim (cases_lt MOST_BLOCK_BYTES (2 * samples_in_all (ordinary ss))) [
    | inl lt ↦ absurd (small (inl lt))
    | inr le ↦ le
  ];
  block_size = elim (cases_lt MOST_BLOCK_BYTES (2 * samples_in_all (labelled ss))) [
    | inl lt ↦ absurd (small (inr lt))
    | inr le ↦ le
  ];
}

-- the faults of the rows are those of the bytes that have the rows in columns
rows-fail : (b : List ℕ) (n : ℕ) → length b ≡ 256 * n → All IsPrintable b → (e : HeaderFault) →
    SignalsFail b n e → RowsFail (signals_of b n) e
rows-fail b n len printable CutSignals bad = absurd (omega (arith, bad))
rows-fail b n len printable (UnprintableSignals offset) bad =
    not-bad IsPrintable 0 b bad.0 printable bad.1
rows-fail b n len printable e bad = bad

signals-fail : (b : List ℕ) (n : ℕ) (e : HeaderFault) → RowsFail (signals_of b n) e →
    SignalsFail b n e
signals-fail b n CutSignals bad = absurd bad
signals-fail b n (UnprintableSignals offset) bad = absurd bad
signals-fail b n e bad = bad

pub clean-signals : (b : List ℕ) (n k : ℕ) → length b ≡ 256 * n → All IsPrintable b →
    IsClean (RowsFail (signals_of b n)) k → IsClean (SignalsFail b n) k
clean-signals b n k len printable clean e lt bad = clean e lt (rows-fail b n len printable e bad)

pub first-signals : (b : List ℕ) (ss : List (List ℕ)) (n m : ℕ) (e : HeaderFault) →
    ss ≡ signals_of b n → n ≡ m → length b ≡ 256 * m → All IsPrintable b →
    IsFirst (RowsFail ss) e → IsFirst (SignalsFail b m) e
first-signals b ss n m e each is len printable first =
    let f : IsFirst (RowsFail (signals_of b m)) e =
    subst (λ (rows : List (List ℕ)). IsFirst (RowsFail rows) e) (each ∙ ap (signals_of b) is)
    first in
    (signals-fail b m e f.0, clean-signals b m (header_fault_number e) len printable f.1)

-- what the loops over the signals find
pub one-kind : (ss : List (List ℕ)) (k n : ℕ) → k ≡ length (labelled ss) → length ss ≡ n → (k ≡ 0)
    ⊎ (k ≡ n) → ¬ HasAnnotations ss
one-kind ss k n is len which h =
    elim which [
      | inl none ↦ omega (arith, h.annotations_some)
      | inr all ↦ omega (arith, h.ordinary_some, kinds-count ss)
    ]

pub kinds-decided : (ss : List (List ℕ)) (k n : ℕ) (r : Option ℕ) (answer : Bool) →
    k ≡ length (labelled ss) → length ss ≡ n → (k ≡ 0 → ⊥) → (k ≡ n → ⊥)
    → is_some r ≡ not answer → MatchOption r (All (Passes checks.Annotations) ss)
    (IsBadSignal checks.Annotations ss) → IsTrue answer ↔ HasAnnotations ss
kinds-decided ss k n None true is len some all says pass = (
  λ _. has-annotations ss (omega (arith, some)) (omega (arith, all, kinds-count ss)) pass,
  λ _. refl,
)
kinds-decided ss k n None false is len some all says pass = absurd (false≢true says)
kinds-decided ss k n (Some signal) true is len some all says bad = absurd (false≢true (sym says))
kinds-decided ss k n (Some signal) false is len some all says bad = (
  λ yes. absurd (false≢true yes),
  λ h. absurd (not-bad (Passes checks.Annotations) [] ss bad.0
      (annotations-pass ss h.annotations) bad.1),
)
