-- Faults of a header from those of its parts, and a header from its parts.
use Rattle.std.proofs.Common.{◌≡◌, ℕ, ◌+◌, ◌*◌, ◌≤◌, ◌<◌, ◌⊎◌, inl, inr, List, [], ◌++◌, length}
use Rattle.std.proofs.Common.{take, drop, arith, length-append, sym, ap, ◌∙◌, subst, append-nil}
use Rattle.std.proofs.Common.{take_at, drop_at, refl, Option, Result, Ok, Err, MatchResult}
use Rattle.std.proofs.lemmas.List.{take_all, length-take, length-drop, drop-append-le}
use Rattle.std.proofs.lemmas.List.{take-append-le}
use Rattle.std.specs.Io.KnownBytes.{Consumes, IsAtEnd}
use Rattle.std.proofs.KnownBytes.{Consumes-trans}
use Rattle.edf_header.proofs.Cited.{fixed-clean, signals-clean}
use Rattle.edf_field.specs.Number.{field, IsNumber}
use Rattle.edf_header.specs.Header.{FixedPart, IsFixedHeader, IsHeader, Layout}
use Rattle.edf_header.specs.Fault.{FixedPartFails, SignalsFail, HasSignals, IsHeaderFault, IsFirst}
use Rattle.edf_header.specs.Fault.{IsClean, IsSignalsRefusal, header_fault_number}
use Rattle.edf_header.specs.declared.fault.HeaderFault.{HeaderFault}
use Rattle.edf_header.specs.declared.fault.HeaderFault.TheVariants.{Cut, CutSignals}
use Rattle.edf_header.specs.declared.fault.HeaderFault.TheVariants.{UnprintableSignals, Annotations}
use Rattle.edf_header.specs.declared.fault.HeaderFault.TheVariants.{Physical, Digital, Samples}
use Rattle.edf_header.specs.declared.fault.HeaderFault.TheVariants.{Size, Memory}
use Rattle.edf_fragment.specs.Reading.{ReadsHeader}
use Rattle.edf_fragment.specs.Stops.{ReadsFewerBytes, StopsInSignalHeaders, RunsOutOfMemoryInHeader}
use Rattle.edf_fragment.specs.Reading.{IsOpenFault, CountsReadFailures}
use Rattle.edf_fragment.specs.Stops.{ReadsHeaderFault}
use Rattle.edf_fragment.specs.Inside.Steps.{ReadsFixed, ReadsSignalHeaders, ReadsSignalHeadersFault}
use Rattle.edf_fragment.specs.Inside.Steps.{RunsOutOfMemoryInSignalHeaders, IsSignalHeadersFault}
use Rattle.edf_fragment.specs.declared.fault.FragmentFault.{FragmentFault}
use Rattle.edf_fragment.specs.declared.fault.FragmentFault.TheVariants.{Header as BadHeader}
use Rattle.edf_fragment.specs.declared.fault.FragmentFault.TheVariants.{CutRecord, Tal, Trailing}
use Rattle.edf_fragment.specs.declared.fault.FragmentFault.TheVariants.{Read, Memory as NoMemory}
use Rattle.edf_fragment.specs.declared.fault.FragmentFault.TheVariants.{Failed}

-- numbers count from 1
number-from : (e : HeaderFault) → 1 ≤ header_fault_number e
number-from Cut = omega arith
number-from e = omega arith

-- fewer than 256 bytes
pub cut_header : (b : List ℕ) → length b < 256 → IsHeaderFault b Cut
cut_header b short = inl (
  omega (arith, length-take 256 b),
  λ other low holds. omega (arith, number-from other),
)

-- 256 bytes with a fault of the fixed part
pub first_fault : (b : List ℕ) (e : HeaderFault) → length b ≡ 256 → IsFirst (FixedPartFails b) e →
    IsHeaderFault b e
first_fault b e len first =
    inl (subst (λ (x : List ℕ). IsFirst (FixedPartFails x) e) (sym (take_all 256 b (omega arith)))
    first)

-- a field of the front
pub field_front : (a b : List ℕ) (at n : ℕ) → at + n ≤ length a → field (a ++ b) at n ≡ field a at n
field_front a b at n within =
    let room : n ≤ length (drop at a) = omega (arith, length-drop at a) in
    ap (take n) (drop-append-le at a b (omega arith)) ∙ take-append-le n (drop at a) b room

-- a fixed part, and after it signals with a fault
pub second_fault : (a b : List ℕ) (f : FixedPart) (e : HeaderFault) → IsFixedHeader a f →
    length b ≤ 256 * f.signal_count
    → IsFirst (SignalsFail b f.signal_count) e → IsHeaderFault (a ++ b) e
second_fault a b f e fixed within first =
    let front : take 256 (a ++ b) ≡ a = take_at a b 256 fixed.len in
    let back : field (a ++ b) 256 (256 * f.signal_count) ≡ b =
    ap (take (256 * f.signal_count)) (drop_at a b 256 fixed.len)
    ∙ take_all (256 * f.signal_count) b within in
    let count : field (a ++ b) 252 4 ≡ field a 252 4 =
    field_front a b 252 4 (omega (arith, fixed.len)) in
    inr (
      f.signal_count,
      subst (λ (x : List ℕ). IsClean (FixedPartFails x) 14) (sym front) (fixed-clean a f fixed),
      (
        subst (λ (x : List ℕ). IsNumber x f.signal_count) (sym count) fixed.signals,
        fixed.signals_from,
        fixed.signals_to,
      ),
      subst (λ (x : List ℕ). IsFirst (SignalsFail x f.signal_count) e) (sym back) first,
    )

-- the fault of a whole fixed part
pub told_first : (left rest : Option (List ℕ)) (b : List ℕ) (e : HeaderFault)
    (told : FragmentFault) → length b ≡ 256 → Consumes left rest b → ((e ≡ Memory → ⊥) → told ≡
    BadHeader e) → IsFirst (FixedPartFails b) e → IsOpenFault left rest told
told_first left rest b e told len read other first =
    let no : e ≡ Memory → ⊥ = λ is. subst (FixedPartFails b) is first.0 in
    let ended : (e ≡ Cut) ⊎ (e ≡ CutSignals) → IsAtEnd rest = elim [
      | inl is ↦ absurd (let low : length b < 256 = subst (FixedPartFails b) is first.0 in
          omega arith)
      | inr is ↦ absurd (subst (FixedPartFails b) is first.0)
    ] in
    let r : ReadsHeaderFault left rest e =
    record {
      bytes = b;
      read = read;
      is_fault = first_fault b e len first;
      ended = ended;
      no_signals = λ low. omega (arith, len);
      no_records = λ n has. omega (arith, len);
    } in
    subst (IsOpenFault left rest) (sym (other no)) r

-- the fault of the signals
pub told_second : (left rest : Option (List ℕ)) (n : ℕ) (b : List ℕ) (e : HeaderFault)
    (told : FragmentFault) → length b ≤ 256 * n → Consumes left rest b → (length b < 256 * n →
    IsAtEnd rest) → (e ≡ Memory → told ≡ NoMemory) → ((e ≡ Memory → ⊥) → told ≡ BadHeader e) →
    IsSignalsRefusal b n e → IsSignalHeadersFault left rest n told
told_second left rest n b e told within read short memory other (inl (is, clean)) =
    subst (IsSignalHeadersFault left rest n) (sym (memory is))
    (record { bytes = b; read = read; within = within; clean = inr clean })
told_second left rest n b e told within read short memory other (inr first) =
    let no : e ≡ Memory → ⊥ = λ is. subst (SignalsFail b n) is first.0 in
    let r : ReadsSignalHeadersFault left rest n e =
    record {
      bytes = b;
      read = read;
      within = within;
      is_fault = first;
      ended =
          λ is. short (subst (SignalsFail b n) is first.0);
    } in
    subst (IsSignalHeadersFault left rest n) (sym (other no)) r

-- both parts of a header
pub whole_header : (left mid rest : Option (List ℕ)) (f : FixedPart) (l : Layout) →
    ReadsFixed left mid f → ReadsSignalHeaders mid rest f l → ReadsHeader left rest l
whole_header left mid rest f l a b =
    let fixed : IsFixedHeader a.bytes b.header.fixed =
    subst (IsFixedHeader a.bytes) (sym b.same) a.is_fixed in
    let is : IsHeader (a.bytes ++ b.bytes) b.header [] =
    record {
      first = a.bytes;
      second = b.bytes;
      parts =
          ap (λ (x : List ℕ). a.bytes ++ x) (sym (append-nil b.bytes));
      fixed = fixed;
      signals =
          b.are_signals;
    } in
    record {
      bytes = a.bytes ++ b.bytes;
      header = b.header;
      read =
          Consumes-trans left mid rest a.bytes b.bytes a.read b.read;
      is_header = is;
      layout_is =
          b.layout_is;
    }

-- faults of the signals have numbers from 14 on
pub signals-later : (s : List ℕ) (n : ℕ) (e : HeaderFault) → SignalsFail s n e → (e ≡ CutSignals)
    ⊎ (14 < header_fault_number e)
signals-later s n CutSignals fails = inl refl
signals-later s n (UnprintableSignals at) fails = inr (omega arith)
signals-later s n Annotations fails = inr (omega arith)
signals-later s n (Physical at) fails = inr (omega arith)
signals-later s n (Digital at) fails = inr (omega arith)
signals-later s n (Samples at) fails = inr (omega arith)
signals-later s n Size fails = inr (omega arith)
signals-later s n e fails = absurd fails

signals-from : (s : List ℕ) (n : ℕ) (e : HeaderFault) → SignalsFail s n e →
    14 ≤ header_fault_number e
signals-from s n e fails = elim (signals-later s n e fails) [
  | inl is ↦ omega (arith, ap header_fault_number is)
  | inr later ↦ omega (arith, later)
]

-- the number of signals that the fixed part says
count-of : (a b : List ℕ) (f : FixedPart) (n : ℕ) → IsFixedHeader a f → HasSignals (a ++ b) n →
    n ≡ f.signal_count
count-of a b f n fixed has =
    let there : field (a ++ b) 252 4 ≡ field a 252 4 =
    field_front a b 252 4 (omega (arith, fixed.len)) in
    let is : IsNumber (field a 252 4) n = subst (λ (x : List ℕ). IsNumber x n) there has.0 in
    is.value ∙ sym fixed.signals.value

-- a header was read
pub in-header : (left rest : Option (List ℕ)) (l : Layout) → ReadsHeader left rest l →
    RunsOutOfMemoryInHeader left rest
in-header left rest l h =
    let i = h.is_header in
    let parts : h.bytes ≡ i.first ++ i.second = i.parts
    ∙ ap (λ (x : List ℕ). i.first ++ x) (append-nil i.second) in
    record {
      fixed = h.header.fixed;
      first = i.first;
      second = i.second;
      read = subst (Consumes left rest) parts h.read;
      is_fixed = i.fixed;
      within = omega (arith, i.signals.len);
      clean = inr (λ other low. signals-clean i.second h.header i.signals other (omega arith));
    }

-- the fixed part was read, and some bytes of the signals
in-signals : (left mid rest : Option (List ℕ)) (f : FixedPart) → ReadsFixed left mid f →
    ReadsFewerBytes (256 * f.signal_count) mid rest → StopsInSignalHeaders left rest
in-signals left mid rest f a b = record {
  fixed = f;
  first = a.bytes;
  second = b.bytes;
  read = Consumes-trans left mid rest a.bytes b.bytes a.read b.read;
  is_fixed = a.is_fixed;
  fewer = b.fewer;
}

-- the fixed part was read, and memory ran out at the signals
lacks-signals : (left mid rest : Option (List ℕ)) (f : FixedPart) → ReadsFixed left mid f →
    RunsOutOfMemoryInSignalHeaders mid rest f.signal_count → RunsOutOfMemoryInHeader left rest
lacks-signals left mid rest f a b = record {
  fixed = f;
  first = a.bytes;
  second = b.bytes;
  read = Consumes-trans left mid rest a.bytes b.bytes a.read b.read;
  is_fixed = a.is_fixed;
  within = b.within;
  clean = b.clean;
}

-- the fixed part and no signals
pub header_fault : (left mid rest : Option (List ℕ)) (f : FixedPart) (told : FragmentFault) →
    ReadsFixed left mid f → IsSignalHeadersFault mid rest f.signal_count told →
    IsOpenFault left rest told
header_fault left mid rest f (BadHeader e) a b =
    let whole = second_fault a.bytes b.bytes f e a.is_fixed b.within b.is_fault in
    let len : length (a.bytes ++ b.bytes) ≡ 256 + length b.bytes = length-append a.bytes b.bytes
    ∙ ap (λ (n : ℕ). n + length b.bytes) a.is_fixed.len in
    record {
      bytes = a.bytes ++ b.bytes;
      read = Consumes-trans left mid rest a.bytes b.bytes a.read b.read;
      is_fault = whole;
      ended = elim [
        | inl is ↦ absurd (subst (SignalsFail b.bytes f.signal_count) is b.is_fault.0)
        | inr is ↦ b.ended is
      ];
      no_signals = λ low. absurd (omega (
        arith,
        signals-from b.bytes f.signal_count e b.is_fault.0,
        low,
      ));
      no_records = λ n has.
          let same : n ≡ f.signal_count = count-of a.bytes b.bytes f n a.is_fixed has in
          omega (arith, len, b.within, same);
    }
header_fault left mid rest f (CutRecord nth) a b = b
header_fault left mid rest f (Tal nth e) a b = b
header_fault left mid rest f Trailing a b = b
header_fault left mid rest f Read a b = inr (in-signals left mid rest f a b)
header_fault left mid rest f NoMemory a b = lacks-signals left mid rest f a b
header_fault left mid rest f Failed a b = b

-- the answer of the second part, as that of the whole
pub header_answer : (left mid rest : Option (List ℕ)) (f : FixedPart)
    (result : Result Layout FragmentFault) → ReadsFixed left mid f → MatchResult result
    (ReadsSignalHeaders mid rest f) (IsSignalHeadersFault mid rest f.signal_count) → MatchResult
    result (ReadsHeader left rest) (IsOpenFault left rest)
header_answer left mid rest f (Ok l) a b = whole_header left mid rest f l a b
header_answer left mid rest f (Err e) a b = header_fault left mid rest f e a b

-- the second part's count, after a first part without a failed read
pub counted_after : {X : Type 0} (old mid new : ℕ) (result : Result X FragmentFault) → mid ≡ old →
    CountsReadFailures mid new result → CountsReadFailures old new result
counted_after old mid new result same counts =
    subst (λ (n : ℕ). CountsReadFailures n new result) same counts
