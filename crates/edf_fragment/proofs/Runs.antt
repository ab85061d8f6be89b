-- Data records, one after another, and fragments from their parts.
use Rattle.std.proofs.Common.{◌≡◌, ℕ, ◌+◌, ◌*◌, ◌≤◌, ◌<◌, ◌⊎◌, inl, inr, List, [], ◌∷◌, ◌++◌}
use Rattle.std.proofs.Common.{length, take, drop, arith, refl, sym, ap, ◌∙◌, subst, append_assoc}
use Rattle.std.proofs.Common.{append-nil, length-append, Option, Some, Ok}
use Rattle.std.proofs.lemmas.List.{take-append-le, length-take, length-drop}
use Rattle.std.proofs.lemmas.Bool.{cases_lt}
use Rattle.std.proofs.KnownBytes.{Consumes-trans}
use Rattle.edf_field.specs.Number.{field, IsNumber}
use Rattle.edf_header.specs.Header.{HeaderRecord, IsHeader, Layout}
use Rattle.edf_header.specs.Fault.{FixedPartFails, SignalsFail, HasSignals, IsHeaderFault, IsFirst}
use Rattle.edf_header.specs.Fault.{IsClean, header_fault_number}
use Rattle.edf_header.specs.declared.fault.HeaderFault.{HeaderFault}
use Rattle.edf_header.specs.declared.fault.HeaderFault.TheVariants.{Cut, CutSignals}
use Rattle.edf_tal.specs.declared.place.Place.{Place}
use Rattle.edf_tal.specs.declared.place.Place.TheVariants.{First}
use Rattle.edf_fragment.specs.Fragment.{DataRecord, IsDataRecord, BeginWithDataRecords, place_after}
use Rattle.edf_fragment.specs.Reading.{ReadsRecord, IsNextAnswerInState, IsNextAnswer}
use Rattle.edf_fragment.specs.Reading.{progress_after}
use Rattle.edf_fragment.specs.Whole.{HasReadRecords}
use Rattle.edf_fragment.specs.declared.advance.Progress.{Progress}
use Rattle.edf_fragment.specs.declared.advance.ReaderState.{ReaderState}
use Rattle.edf_fragment.specs.declared.advance.ReaderState.TheVariants.{Reading}
use Rattle.edf_fragment.proofs.HeaderParts.{field_front, signals-later}

-- ---- lists of data records

-- one more record at the end
pub AreDataRecords-snoc : (l : Layout) (p q : Place) (b front : List ℕ) (rs : List DataRecord)
    (r : DataRecord) → BeginWithDataRecords l p b rs q [] → IsDataRecord l q front r →
    BeginWithDataRecords l p (b ++ front) (rs ++ r ∷ []) (place_after l r.start) []
AreDataRecords-snoc l p q b front [] r (place, rest) is =
    let all : b ++ front ≡ front ++ [] = ap (λ (x : List ℕ). x ++ front) (sym rest)
    ∙ sym (append-nil front) in
    (front, [], all, subst (λ (x : Place). IsDataRecord l x front r) place is, (refl, refl))
AreDataRecords-snoc l p q b front (x ∷ rs) r (first, back, parts, one, more) is = (
  first,
  back ++ front,
  ap (λ (y : List ℕ). y ++ front) parts ∙ append_assoc first back front,
  one,
  AreDataRecords-snoc l (place_after l x.start) q back front rs r more is,
)

-- more bytes that are left
pub AreDataRecords-more : (l : Layout) (p q : Place) (b rest more : List ℕ) (rs : List DataRecord)
    → BeginWithDataRecords l p b rs q rest →
    BeginWithDataRecords l p (b ++ more) rs q (rest ++ more)
AreDataRecords-more l p q b rest more [] (place, same) =
    (place, ap (λ (x : List ℕ). x ++ more) same)
AreDataRecords-more l p q b rest more (x ∷ rs) (first, back, parts, one, others) = (
  first,
  back ++ more,
  ap (λ (y : List ℕ). y ++ more) parts ∙ append_assoc first back more,
  one,
  AreDataRecords-more l (place_after l x.start) q back rest more rs others,
)

-- ---- headers

pub IsHeader-more : (b more : List ℕ) (h : HeaderRecord) → IsHeader b h [] →
    IsHeader (b ++ more) h more
IsHeader-more b more h is = record {
  first = is.first;
  second = is.second;
  parts = ap (λ (x : List ℕ). x ++ more) (is.parts
      ∙ ap (λ (x : List ℕ). is.first ++ x) (append-nil is.second))
      ∙ append_assoc is.first is.second more;
  fixed = is.fixed;
  signals = is.signals;
}

not-below : (a b : ℕ) → (a < b → ⊥) → b ≤ a
not-below a b never = elim (cases_lt a b) [ inl low ↦ absurd (never low) | inr high ↦ high ]

-- a fault of a fixed part that is there
first-more : (b more : List ℕ) (e : HeaderFault) → 256 ≤ length b →
    IsFirst (FixedPartFails (take 256 b)) e → IsFirst (FixedPartFails (take 256 (b ++ more))) e
first-more b more e enough first =
    subst (λ (x : List ℕ). IsFirst (FixedPartFails x) e) (sym (take-append-le 256 b more enough))
    first

-- the number of a fault says that 256 bytes are there
enough-clean : (b : List ℕ) (n : ℕ) → 1 < n → IsClean (FixedPartFails (take 256 b)) n →
    256 ≤ length b
enough-clean b n later clean =
    not-below (length b) 256 (λ low. clean Cut later (omega (arith, length-take 256 b)))

cut-or-later : (e : HeaderFault) → (e ≡ Cut) ⊎ (1 < header_fault_number e)
cut-or-later Cut = inl refl
cut-or-later e = inr (omega arith)

-- the fault of signals that are there
second-more : (b more : List ℕ) (n : ℕ) (e : HeaderFault) →
    IsClean (FixedPartFails (take 256 b)) 14 → HasSignals b n → 14 < header_fault_number e
    → IsFirst (SignalsFail (field b 256 (256 * n)) n) e → IsHeaderFault (b ++ more) e
second-more b more n e clean has later first =
    let enough : 256 ≤ length b = enough-clean b 14 (omega arith) clean in
    let there : 256 * n ≤ length (field b 256 (256 * n)) =
    not-below _ _ (first.1 CutSignals later) in
    let all : 256 + 256 * n ≤ length b =
    omega (arith, length-take (256 * n) (drop 256 b), length-drop 256 b) in
    let front : take 256 (b ++ more) ≡ take 256 b = take-append-le 256 b more enough in
    let count : field (b ++ more) 252 4 ≡ field b 252 4 = field_front b more 252 4 (omega arith) in
    let signals : field (b ++ more) 256 (256 * n) ≡ field b 256 (256 * n) =
    field_front b more 256 (256 * n) all in
    inr (
      n,
      subst (λ (x : List ℕ). IsClean (FixedPartFails x) 14) (sym front) clean,
      (subst (λ (x : List ℕ). IsNumber x n) (sym count) has.0, has.1, has.2),
      subst (λ (x : List ℕ). IsFirst (SignalsFail x n) e) (sym signals) first,
    )

same-bytes : (b more : List ℕ) (e : HeaderFault) → more ≡ [] → IsHeaderFault b e →
    IsHeaderFault (b ++ more) e
same-bytes b more e none fault =
    let same : b ++ more ≡ b = ap (λ (x : List ℕ). b ++ x) none ∙ append-nil b in
    subst (λ (x : List ℕ). IsHeaderFault x e) (sym same) fault

-- a fault of the front is that of all, where it is no cut, or nothing more is there
pub IsHeaderFault-more : (b more : List ℕ) (e : HeaderFault) →
    ((e ≡ Cut) ⊎ (e ≡ CutSignals) → more ≡ []) → IsHeaderFault b e → IsHeaderFault (b ++ more) e
IsHeaderFault-more b more e none (inl first) =
    elim (cut-or-later e) [
      | inl cut ↦ same-bytes b more e (none (inl cut)) (inl first)
      | inr later ↦ inl (first-more b more e (enough-clean b (header_fault_number e) later first.1)
          first)
    ]
IsHeaderFault-more b more e none (inr (n, clean, has, first)) =
    elim (signals-later (field b 256 (256 * n)) n e first.0) [
      | inl cut ↦ same-bytes b more e (none (inr cut)) (inr (n, clean, has, first))
      | inr later ↦ second-more b more n e clean has later first
    ]

-- ---- reading on

-- what a reader answers that goes on, with a record
pub next_of : (l : Layout) (p q : Progress) (mid rest : Option (List ℕ)) (o : Option DataRecord)
    (r : DataRecord) → p.state ≡ Reading → IsNextAnswer l p q mid rest (Ok o) → o ≡ Some r → (q ≡
    progress_after l p (Ok (Some r))) × ReadsRecord l p mid rest r
next_of l p q mid rest o r going answer is =
    subst (λ (x : Option DataRecord). IsNextAnswerInState Reading l p q mid rest (Ok x)) is
    (subst (λ (s : ReaderState). IsNextAnswerInState s l p q mid rest (Ok o)) going answer)

-- one more record was read
pub reads_more : (l : Layout) (left mid rest : Option (List ℕ)) (rs : List DataRecord)
    (p q : Progress) (r : DataRecord) → HasReadRecords l left mid rs p → q ≡ progress_after l p (Ok
    (Some r)) → ReadsRecord l p mid rest r → HasReadRecords l left rest (rs ++ r ∷ []) q
reads_more l left mid rest rs p q r before is gives =
    let place : q.place ≡ place_after l r.start = ap (λ (x : Progress). x.place) is in
    let given : q.given ≡ p.given + 1 = ap (λ (x : Progress). x.given) is in
    let more = AreDataRecords-snoc l First p.place before.bytes gives.bytes rs r before.are_records
    gives.is_record in
    record {
      bytes = before.bytes ++ gives.bytes;
      read = Consumes-trans left mid rest before.bytes gives.bytes before.read gives.read;
      are_records = subst (λ (x : Place). BeginWithDataRecords l First (before.bytes
          ++ gives.bytes) (rs ++ r ∷ []) x []) (sym place) more;
      given = omega (arith, before.given, length-append rs (r ∷ []));
      within = omega (arith, gives.may_come, given);
    }
