-- Fragments that were read, and the first fault of those that were not.
use Rattle.std.proofs.Common.{◌≡◌, ℕ, ◌+◌, ◌≤◌, ◌⊎◌, inl, inr, List, [], ◌∷◌, ◌++◌, length, arith}
use Rattle.std.proofs.Common.{refl, sym, ap, ◌∙◌, subst, append-nil, length-append, Option, Some}
use Rattle.std.proofs.Common.{None, IfSome, Result, Ok, Err}
use Rattle.std.specs.Io.KnownBytes.{Consumes}
use Rattle.std.proofs.KnownBytes.{Consumes-trans, Consumes-nil}
use Rattle.edf_header.specs.Header.{HeaderRecord, IsHeader, Layout, layout_of, least_records}
use Rattle.edf_header.specs.Header.{most_records}
use Rattle.edf_header.specs.Fault.{IsHeaderFault}
use Rattle.edf_header.specs.declared.fault.HeaderFault.{HeaderFault}
use Rattle.edf_tal.specs.declared.place.Place.{Place}
use Rattle.edf_tal.specs.declared.place.Place.TheVariants.{First}
use Rattle.edf_tal.specs.declared.place.TalFault.{TalFault}
use Rattle.edf_tal.specs.Block.{BlocksHaveFirstFault}
use Rattle.edf_fragment.specs.Fragment.{DataRecord, BeginWithDataRecords, blocks, IsFragmentFile}
use Rattle.edf_fragment.specs.Fault.{ParsedPrefix, IsCutRecord, IsRefusedRecord, HasTrailingBytes}
use Rattle.edf_fragment.specs.Fault.{IsFirstFault}
use Rattle.edf_fragment.specs.Reading.{ReadsHeader, IsOpenFault, IsEndOfRecords}
use Rattle.edf_fragment.specs.Stops.{ReadsHeaderFault}
use Rattle.edf_fragment.specs.Reading.{IsNextFault, IsNextResult}
use Rattle.edf_fragment.specs.Stops.{EndsInRecord, RefusesRecord, ReadsTrailingByte}
use Rattle.edf_fragment.specs.Reading.{initial_progress, progress_after, IsNextAnswerInState}
use Rattle.edf_fragment.specs.Reading.{IsNextAnswer}
use Rattle.edf_fragment.specs.Whole.{HasReadRecords, FailsAfterRecords, ReadsFragment}
use Rattle.edf_fragment.specs.Whole.{IsFirstFaultIfKnown, ReadsFragmentFault}
use Rattle.edf_fragment.specs.Inside.Steps.{ReadsRecords}
use Rattle.edf_fragment.specs.declared.advance.Progress.{Progress}
use Rattle.edf_fragment.specs.declared.advance.ReaderState.{ReaderState}
use Rattle.edf_fragment.specs.declared.advance.ReaderState.TheVariants.{Reading}
use Rattle.edf_fragment.specs.declared.fault.FragmentFault.{FragmentFault}
use Rattle.edf_fragment.specs.declared.fault.FragmentFault.TheVariants.{Header as BadHeader}
use Rattle.edf_fragment.specs.declared.fault.FragmentFault.TheVariants.{CutRecord, Tal, Trailing}
use Rattle.edf_fragment.specs.declared.fault.FragmentFault.TheVariants.{Read, Memory, Failed}
use Rattle.edf_header.proofs.Cited.{header-has-layout}
use Rattle.edf_fragment.proofs.Layouts.{blocks-front}
use Rattle.edf_fragment.proofs.Runs.{AreDataRecords-more, IsHeader-more, IsHeaderFault-more}
use Rattle.edf_fragment.proofs.Runs.{reads_more}

-- a header, and the data records after it
pub fragment_read : (left mid rest : Option (List ℕ)) (l : Layout) (rs : List DataRecord) →
    ReadsHeader left mid l → ReadsRecords l mid rest rs → ReadsFragment left rest l rs
fragment_read left mid rest l rs a b =
    let are = subst (λ (x : Layout). BeginWithDataRecords x First b.bytes rs b.next_place [])
    a.layout_is b.are_records in
    let spells : IsFragmentFile (a.bytes ++ b.bytes) l.key rs = record {
      header = a.header;
      rest = b.bytes;
      next_place = b.next_place;
      is_header = IsHeader-more a.bytes b.bytes a.header a.is_header;
      key = ap (λ (x : Layout). x.key) a.layout_is;
      are_records = are;
      least = subst (λ (x : Layout). least_records x.count ≤ length rs) a.layout_is b.least;
      most = subst (λ (x : Layout). length rs ≤ most_records x.count) a.layout_is b.most;
    } in
    record {
      bytes = a.bytes ++ b.bytes;
      read = Consumes-trans left mid rest a.bytes b.bytes a.read b.read;
      end = b.end;
      is_file = spells;
      layout_is = a.layout_is;
    }

-- ---- a refused header

header_of_all : (left rest : Option (List ℕ)) (e : HeaderFault) → ReadsHeaderFault left rest e →
    IfSome left (λ all. IsHeaderFault all e)
header_of_all None rest e f = tt
header_of_all (Some all) None e f = absurd f.read
header_of_all (Some all) (Some more) e f =
    subst (λ (x : List ℕ). IsHeaderFault x e) (sym f.read)
    (IsHeaderFault-more f.bytes more e f.ended f.is_fault)

first_in_header : (left rest : Option (List ℕ)) (e : FragmentFault) → IsOpenFault left rest e →
    IsFirstFaultIfKnown left e
first_in_header left rest (BadHeader e) f = header_of_all left rest e f
first_in_header left rest Read f = tt
first_in_header left rest Memory f = tt
first_in_header left rest e f = absurd f

pub open_refused : (left rest : Option (List ℕ)) (e : FragmentFault) → IsOpenFault left rest e →
    ReadsFragmentFault left rest e
open_refused left rest e f = record { met = inl f; first = first_in_header left rest e f }

-- ---- a fault after some data records

-- the bytes of a header, those of the data records, and what is left
abbrev up_to : (all one two a b : List ℕ) (h : HeaderRecord) (rs : List DataRecord) (p : Place) →
    all ≡ a ++ one → one ≡ b ++ two → IsHeader a h [] →
    BeginWithDataRecords (layout_of h) First b rs p [] → ParsedPrefix all
up_to all one two a b h rs p first second is are = record {
  header = h;
  rest = one;
  records = rs;
  next_place = p;
  remaining = two;
  is_header = subst (λ (x : List ℕ). IsHeader x h one) (sym first) (IsHeader-more a one h is);
  are_records = subst (λ (x : List ℕ). BeginWithDataRecords (layout_of h) First x rs p two)
      (sym second) (AreDataRecords-more (layout_of h) First p b [] two rs are);
}

cut_of_all : (left mid two rest : Option (List ℕ)) (a b : List ℕ) (h : HeaderRecord)
    (rs : List DataRecord) (p : Progress) (nth : ℕ) → Consumes left mid a → Consumes mid two b →
    IsHeader a h [] → BeginWithDataRecords (layout_of h) First b rs p.place [] → p.given ≡ length rs
    → EndsInRecord (layout_of h) p two rest nth → IfSome left (λ all. IsCutRecord all nth)
cut_of_all None mid two rest a b h rs p nth x y is are given f = tt
cut_of_all (Some all) None two rest a b h rs p nth x y is are given f = absurd x
cut_of_all (Some all) (Some one) None rest a b h rs p nth x y is are given f = absurd y
cut_of_all (Some all) (Some one) (Some two) None a b h rs p nth x y is are given f = absurd f.read
cut_of_all (Some all) (Some one) (Some two) (Some rest) a b h rs p nth x y is are given f =
    let len : length two ≡ length f.bytes =
    ap (λ (l : List ℕ). length l) (f.read ∙ ap (λ (l : List ℕ). f.bytes ++ l) f.end
    ∙ append-nil f.bytes) in
    record {
      up_to = up_to all one two a b h rs p.place x y is are;
      is_nth = omega (arith, f.is_nth, given);
      may_come = omega (arith, f.is_nth, f.may_come);
      there = elim f.there [
        | inl low ↦ inl (omega (arith, f.is_nth, low))
        | inr some ↦ inr (omega (arith, some, len))
      ];
      cut = omega (arith, f.cut, len);
    }

block_of_all : (left mid two rest : Option (List ℕ)) (a b : List ℕ) (h : HeaderRecord)
    (rs : List DataRecord) (p : Progress) (nth : ℕ) (e : TalFault) → Consumes left mid a → Consumes
    mid two b → IsHeader a h [] → BeginWithDataRecords (layout_of h) First b rs p.place [] → p.given
    ≡ length rs → RefusesRecord (layout_of h) p two rest nth e → IfSome left (λ all. IsRefusedRecord
    all nth e)
block_of_all None mid two rest a b h rs p nth e x y is are given f = tt
block_of_all (Some all) None two rest a b h rs p nth e x y is are given f = absurd x
block_of_all (Some all) (Some one) None rest a b h rs p nth e x y is are given f = absurd y
block_of_all (Some all) (Some one) (Some two) None a b h rs p nth e x y is are given f =
    absurd f.read
block_of_all (Some all) (Some one) (Some two) (Some rest) a b h rs p nth e x y is are given f =
    let l = layout_of h in
    let len : length two ≡ length f.bytes + length rest = ap (λ (z : List ℕ). length z) f.read
    ∙ length-append f.bytes rest in
    let same : blocks l two ≡ blocks l f.bytes = ap (blocks l) f.read
    ∙ blocks-front l f.bytes rest (header-has-layout a h [] is) (omega (arith, f.len)) in
    record {
      up_to = up_to all one two a b h rs p.place x y is are;
      is_nth = omega (arith, f.is_nth, given);
      may_come = omega (arith, f.is_nth, f.may_come);
      whole = omega (arith, f.len, len);
      refused = subst (λ (z : List (List ℕ)). BlocksHaveFirstFault z l.start p.place e) (sym same)
          f.refused;
    }

more_of_all : (left mid two rest : Option (List ℕ)) (a b : List ℕ) (h : HeaderRecord)
    (rs : List DataRecord) (p : Progress) → Consumes left mid a → Consumes mid two b → IsHeader a h
    [] → BeginWithDataRecords (layout_of h) First b rs p.place [] → p.given ≡ length rs →
    ReadsTrailingByte (layout_of h) p two rest → IfSome left (λ all. HasTrailingBytes all)
more_of_all None mid two rest a b h rs p x y is are given f = tt
more_of_all (Some all) None two rest a b h rs p x y is are given f = absurd x
more_of_all (Some all) (Some one) None rest a b h rs p x y is are given f = absurd y
more_of_all (Some all) (Some one) (Some two) None a b h rs p x y is are given f = absurd f.read
more_of_all (Some all) (Some one) (Some two) (Some rest) a b h rs p x y is are given f =
    let len : length two ≡ 1 + length rest = ap (λ (z : List ℕ). length z) f.read
    ∙ length-append (f.byte ∷ []) rest in
    record {
      up_to = up_to all one two a b h rs p.place x y is are;
      all = sym given ∙ f.all;
      more = omega (arith, len);
    }

after_header : (left mid two rest : Option (List ℕ)) (a b : List ℕ) (h : HeaderRecord)
    (rs : List DataRecord) (p : Progress) (e : FragmentFault) → Consumes left mid a → Consumes mid
    two b → IsHeader a h [] → BeginWithDataRecords (layout_of h) First b rs p.place [] → p.given ≡
    length rs → IsNextFault (layout_of h) p two rest e → IsFirstFaultIfKnown left e
after_header left mid two rest a b h rs p (CutRecord nth) x y is are given f =
    cut_of_all left mid two rest a b h rs p nth x y is are given f
after_header left mid two rest a b h rs p (Tal nth e) x y is are given f =
    block_of_all left mid two rest a b h rs p nth e x y is are given f
after_header left mid two rest a b h rs p Trailing x y is are given f =
    more_of_all left mid two rest a b h rs p x y is are given f
after_header left mid two rest a b h rs p Read x y is are given f = tt
after_header left mid two rest a b h rs p Memory x y is are given f = tt
after_header left mid two rest a b h rs p e x y is are given f = absurd f

pub records_refused : (left mid rest : Option (List ℕ)) (l : Layout) (e : FragmentFault) →
    ReadsHeader left mid l → FailsAfterRecords l mid rest e → ReadsFragmentFault left rest e
records_refused left mid rest l e a b =
    let are = subst (λ (x : Layout). BeginWithDataRecords x First b.before.bytes b.records
    b.progress.place []) a.layout_is b.before.are_records in
    let fault = subst (λ (x : Layout). IsNextFault x b.progress b.mid rest e) a.layout_is
    b.is_fault in
    record {
      met = inr (record { layout = l; mid = mid; header = a; records = b });
      first = after_header left mid b.mid rest a.bytes b.before.bytes a.header b.records b.progress
          e a.read b.before.read a.is_header are b.before.given fault;
    }

-- ---- step by step

pub reads_none : (l : Layout) (left : Option (List ℕ)) →
    HasReadRecords l left left [] initial_progress
reads_none l left = record {
  bytes = [];
  read = Consumes-nil left;
  are_records = (refl, refl);
  given = refl;
  within = omega arith;
}

reads_end : (l : Layout) (left mid rest : Option (List ℕ)) (rs : List DataRecord) (p : Progress) →
    HasReadRecords l left mid rs p → IsEndOfRecords l p mid rest → ReadsRecords l left rest rs
reads_end l left mid rest rs p before ends = record {
  bytes = before.bytes;
  next_place = p.place;
  read = subst (λ (x : List ℕ). Consumes left rest x) (append-nil before.bytes)
      (Consumes-trans left mid rest before.bytes [] before.read ends.read);
  end = ends.end;
  are_records = before.are_records;
  least = omega (arith, before.given, ends.least);
  most = omega (arith, before.given, ends.most);
}

-- what a reader answers that goes on
going : (l : Layout) (p q : Progress) (mid rest : Option (List ℕ))
    (result : Result (Option DataRecord) FragmentFault) → p.state ≡ Reading → IsNextAnswer l p q mid
    rest result → (q ≡ progress_after l p result) × IsNextResult l p mid rest result
going l p q mid rest result on answer =
    subst (λ (s : ReaderState). IsNextAnswerInState s l p q mid rest result) on answer

pub one_more_read : (l : Layout) (left mid rest : Option (List ℕ)) (rs : List DataRecord)
    (p q : Progress) (r : DataRecord) → HasReadRecords l left mid rs p → p.state ≡ Reading
    → IsNextAnswer l p q mid rest (Ok (Some r)) → HasReadRecords l left rest (rs ++ r ∷ []) q
    × (q.state ≡ Reading)
one_more_read l left mid rest rs p q r before on answer =
    let step = going l p q mid rest (Ok (Some r)) on answer in (
      reads_more l left mid rest rs p q r before step.0 step.1,
      ap (λ (x : Progress). x.state) step.0,
    )

pub all_read : (l : Layout) (left one two rest : Option (List ℕ)) (rs : List DataRecord)
    (p q : Progress) → ReadsHeader left one l → HasReadRecords l one two rs p → p.state ≡ Reading
    → IsNextAnswer l p q two rest (Ok None) → ReadsFragment left rest l rs
all_read l left one two rest rs p q header before on answer =
    let step = going l p q two rest (Ok None) on answer in
    fragment_read left one rest l rs header (reads_end l one two rest rs p before step.1)

pub refused_then : (l : Layout) (left one two rest : Option (List ℕ)) (rs : List DataRecord)
    (p q : Progress) (e : FragmentFault) → ReadsHeader left one l → HasReadRecords l one two rs p
    → p.state ≡ Reading → IsNextAnswer l p q two rest (Err e) → ReadsFragmentFault left rest e
refused_then l left one two rest rs p q e header before on answer =
    let step = going l p q two rest (Err e) on answer in
    records_refused left one rest l e header
    (record { mid = two; records = rs; progress = p; before = before; is_fault = step.1 })

-- ---- where the bytes are known

pub fragment_of_all : (all : List ℕ) (rest : Option (List ℕ)) (l : Layout) (rs : List DataRecord) →
    ReadsFragment (Some all) rest l rs → IsFragmentFile all l.key rs
fragment_of_all all None l rs f = absurd f.read
fragment_of_all all (Some rest) l rs f =
    let same : all ≡ f.bytes = f.read ∙ ap (λ (x : List ℕ). f.bytes ++ x) f.end
    ∙ append-nil f.bytes in
    subst (λ (x : List ℕ). IsFragmentFile x l.key rs) (sym same) f.is_file

told_of_all : (all : List ℕ) (e : FragmentFault) → IsFirstFaultIfKnown (Some all) e → (e ≡ Read)
    ⊎ ((e ≡ Memory) ⊎ IsFirstFault all e)
told_of_all all Read f = inl refl
told_of_all all Memory f = inr (inl refl)
told_of_all all Failed f = absurd f
told_of_all all e f = inr (inr f)

pub fault_of_all : (all : List ℕ) (rest : Option (List ℕ)) (e : FragmentFault) →
    ReadsFragmentFault (Some all) rest e → (e ≡ Read) ⊎ ((e ≡ Memory) ⊎ IsFirstFault all e)
fault_of_all all rest e f = told_of_all all e f.first
