-- Two files are read side by side.
use Rattle.std.proofs.Common.{◌≡◌, ℕ, ◌+◌, ◌<◌, ◌≤◌, List, [], ◌∷◌, ◌++◌, length, All, Option, Some}
use Rattle.std.proofs.Common.{None}
use Rattle.std.proofs.Common.{refl, sym, ap, ◌∙◌, subst, arith, append-nil, Result, Ok, Err}
use Rattle.std.proofs.Common.{MatchResult}
use Rattle.std.specs.Prelude.{Bool}
use Rattle.std.specs.Io.KnownBytes.{Consumes}
use Rattle.std.proofs.KnownBytes.{Consumes-trans}
use Rattle.std.proofs.lemmas.List.Elements.{All-nil}
use Rattle.edf_field.specs.Number.{duration_of}
use Rattle.edf_header.specs.Key.{Key}
use Rattle.edf_header.specs.Header.{Layout}
use Rattle.edf_header.specs.declared.limits.TheConstants.{MOST_RECORDS}
use Rattle.edf_fragment.specs.Fragment.{DataRecord}
use Rattle.edf_fragment.specs.Inside.Steps.{ReadsRecords}
use Rattle.edf_fragment.specs.Reading.{ReadsHeader, IsNextAnswer, IsNextAnswerInState, IsNextResult}
use Rattle.edf_fragment.specs.Reading.{IsEndOfRecords, progress_after, initial_progress}
use Rattle.edf_fragment.specs.Whole.{HasReadRecords, FailsAfterRecords}
use Rattle.edf_fragment.specs.declared.advance.Progress.{Progress}
use Rattle.edf_fragment.specs.declared.advance.ReaderState.{ReaderState}
use Rattle.edf_fragment.specs.declared.advance.ReaderState.TheVariants.{Reading}
use Rattle.edf_fragment.specs.declared.fault.FragmentFault.{FragmentFault}
use Rattle.edf_fragment.proofs.Fragments.{fragment_read, one_more_read, reads_none}
use Rattle.edf_fragment.proofs.Sound.{spelled-sound, spelled-few}
use Rattle.edf_runs.specs.Compared.{HasWord, IsMet, AreStretches}
use Rattle.edf_runs.specs.ComparedFiles.{IsCompared}
use Rattle.edf_runs.specs.Inside.Comparing.{IsPassed, IsAfter}
use Rattle.edf_runs.specs.Inside.Siding.{IsSide, pending, left_of, is_passed, Files, AreSides}
use Rattle.edf_runs.specs.Inside.Siding.{Advances, IsSideFault}
use Rattle.edf_runs.specs.Inside.Siding.{left_of_both, ReadsSide, PassesFirst, PassesSecond}
use Rattle.edf_runs.specs.Inside.Siding.{PassesBoth}
use Rattle.edf_runs.specs.Inside.Spaced.{Spaced}
use Rattle.edf_runs.specs.declared.compared.Comparison.{Comparison}
use Rattle.edf_runs.specs.declared.sides.SideFault.{SideFault}
use Rattle.edf_runs.specs.declared.sides.SideFault.TheVariants.{First as OfFirst}
use Rattle.edf_runs.specs.declared.sides.SideFault.TheVariants.{Second as OfSecond, Memory}
use Rattle.edf_runs.specs.declared.sides.Sides.{Sides}
use Rattle.edf_runs.specs.declared.stretch.Stretch.{Stretch}
use Rattle.edf_runs.proofs.ByOnset.{spaced-sound}

pub nothing-passed : (d : ℕ) (next next' : Option DataRecord) → IsPassed d 0 [] [] [] [] next next'
nothing-passed d next next' l m begins begins' spaced spaced' few few' = record {
  words = refl;
  met = refl;
  low = All-nil (λ (a : DataRecord). All (λ (b : DataRecord). a.start < b.start) m);
  low' = All-nil (λ (b : DataRecord). All (λ (a : DataRecord). b.start < a.start) l);
  ends = All-nil (λ (a : DataRecord). a.start + d ≤ 0);
  ended = λ some. absurd (omega (arith, some));
}

-- where both files ended
pub all-compared : (d passed : ℕ) (firsts seconds : List Stretch) (p q : List DataRecord) →
    IsPassed d passed firsts seconds p q None None → Spaced d 0 p → Spaced d 0 q →
    length p ≤ MOST_RECORDS → length q ≤ MOST_RECORDS →
    AreStretches (HasWord d p) d seconds q × AreStretches (IsMet q) d firsts p
all-compared d passed firsts seconds p q is spaced spaced' few few' =
    let same = append-nil p in
    let same' = append-nil q in
    let passes = is [] [] refl refl (subst (Spaced d 0) (sym same) spaced)
    (subst (Spaced d 0) (sym same') spaced')
    (subst (λ (x : List DataRecord). length x ≤ MOST_RECORDS) (sym same) few)
    (subst (λ (x : List DataRecord). length x ≤ MOST_RECORDS) (sym same') few') in (
      subst (λ (x : List DataRecord). AreStretches (HasWord d x) d seconds q) same passes.words,
      subst (λ (x : List DataRecord). AreStretches (IsMet x) d firsts p) same' passes.met,
    )

-- less is left after one more answer
pub less-left : (l : Layout) (from now : Option (List ℕ)) (p q : Progress)
    (passed : List DataRecord) (f : DataRecord) (next : Option DataRecord) →
    IsSide l from now q passed next → q.given ≡ p.given + pending next →
    left_of l q next < left_of l p (Some f)
less-left l from now p q passed f None is given = omega (arith, given)
less-left l from now p q passed f (Some r) is given = omega (arith, given, is.0.within)

-- both were read to their ends
pub compared-files : (left mid rest left' mid' rest' : Option (List ℕ)) (l l' : Layout)
    (p q : List DataRecord) (sides : Sides) (c : Comparison) → ReadsHeader left mid l →
    ReadsHeader left' mid' l' → l.key ≡ l'.key → ReadsRecords l mid rest p →
    ReadsRecords l' mid' rest' q → sides.duration ≡ duration_of l.key.duration →
    is_passed sides p q None None → c.words.items ≡ sides.seconds.items →
    c.firsts.items ≡ sides.firsts.items → IsCompared left rest left' rest' c
compared-files left mid rest left' mid' rest' l l' p q sides c h h' same r r' lasts is words
    firsts =
    let d = duration_of l.key.duration in
    let read = fragment_read left mid rest l p h r in
    let read' = fragment_read left' mid' rest' l' q h' r' in
    let spaced = spaced-sound l.key 0 p (spelled-sound read.bytes l.key p read.is_file) in
    let spaced' = subst (λ (x : Key). Spaced (duration_of x.duration) 0 q) (sym same)
    (spaced-sound l'.key 0 q (spelled-sound read'.bytes l'.key q read'.is_file)) in
    let passed = subst (λ (x : ℕ). IsPassed x sides.passed sides.firsts.items sides.seconds.items p
    q None None) lasts is in
    let both = all-compared d sides.passed sides.firsts.items sides.seconds.items p q passed spaced
    spaced' (spelled-few read.bytes l.key p read.is_file)
    (spelled-few read'.bytes l'.key q read'.is_file) in
    record {
      layout = l;
      layout' = l';
      firsts = p;
      seconds = q;
      read = read;
      read' = read';
      same = same;
      words = subst (λ (x : List Stretch). AreStretches (HasWord d p) d x q) (sym words) both.0;
      met = subst (λ (x : List Stretch). AreStretches (IsMet q) d x p) (sym firsts) both.1;
    }

-- what a reader answers that goes on
answers-on : (l : Layout) (p q : Progress) (mid now : Option (List ℕ))
    (result : Result (Option DataRecord) FragmentFault) → p.state ≡ Reading →
    IsNextAnswer l p q mid now result →
    (q ≡ progress_after l p result) × IsNextResult l p mid now result
answers-on l p q mid now result on answer =
    subst (λ (s : ReaderState). IsNextAnswerInState s l p q mid now result) on answer

ended : (l : Layout) (from mid now : Option (List ℕ)) (passed : List DataRecord) (p : Progress) →
    HasReadRecords l from mid passed p → IsEndOfRecords l p mid now → ReadsRecords l from now passed
ended l from mid now passed p before ends = record {
  bytes = before.bytes;
  next_place = p.place;
  read = subst (λ (x : List ℕ). Consumes from now x) (append-nil before.bytes)
      (Consumes-trans from mid now before.bytes [] before.read ends.read);
  end = ends.end;
  are_records = before.are_records;
  least = omega (arith, before.given, ends.least);
  most = omega (arith, before.given, ends.most);
}

pub read-on : (l : Layout) (from mid now : Option (List ℕ)) (passed : List DataRecord)
    (p q : Progress) (result : Result (Option DataRecord) FragmentFault) →
    HasReadRecords l from mid passed p → p.state ≡ Reading → IsNextAnswer l p q mid now result →
    MatchResult result
    (λ next. IsSide l from now q passed next × (q.given ≡ p.given + pending next))
    (FailsAfterRecords l from now)
read-on l from mid now passed p q (Ok (Some r)) before on answer = (
  one_more_read l from mid now passed p q r before on answer,
  ap (λ (x : Progress). x.given) (answers-on l p q mid now (Ok (Some r)) on answer).0,
)
read-on l from mid now passed p q (Ok None) before on answer =
    let step = answers-on l p q mid now (Ok None) on answer in (
      ended l from mid now passed p before step.1,
      ap (λ (x : Progress). x.given) step.0 ∙ omega arith,
    )
read-on l from mid now passed p q (Err fault) before on answer = record {
  mid = mid;
  records = passed;
  progress = p;
  before = before;
  is_fault = (answers-on l p q mid now (Err fault) on answer).1;
}

-- ---- one step of both

abbrev files-at : Layout → Layout → Option (List ℕ) → Option (List ℕ) → Progress → Progress → Files
files-at l l' now now' p p' = record {
  layout = l;
  layout' = l';
  now = now;
  now' = now';
  progress = p;
  progress' = p';
}

module _ (l l' : Layout) (from from' : Option (List ℕ)) where
  abbrev at : Option (List ℕ) → Option (List ℕ) → Progress → Progress → Files
  at now now' p p' = files-at l l' now now' p p'

  -- of one of them, whose next data record was passed
  next-side : (k : Layout) (begin mid now : Option (List ℕ)) (p0 p1 : Progress)
      (passed : List DataRecord) (was : Option DataRecord) (f : DataRecord)
      (next : Option DataRecord) → was ≡ Some f → IsSide k begin mid p0 passed was →
      ReadsSide k mid now p0 p1 (Ok next) → IsSide k begin now p1 (passed ++ f ∷ []) next
      × (left_of k p1 next < left_of k p0 was)
  next-side k begin mid now p0 p1 passed was f next is side reads =
      let at-it : IsSide k begin mid p0 passed (Some f) =
      subst (IsSide k begin mid p0 passed) is side in
      let read = reads begin (passed ++ f ∷ []) at-it.0 at-it.1 in (
        read.0,
        subst (λ (o : Option DataRecord). left_of k p1 next < left_of k p0 o) (sym is)
            (less-left k begin now p0 p1 (passed ++ f ∷ []) f next read.0 read.1),
      )

  side-fails : (k : Layout) (begin mid now : Option (List ℕ)) (p0 p1 : Progress)
      (passed : List DataRecord) (was : Option DataRecord) (f : DataRecord)
      (fault : FragmentFault) → was ≡ Some f → IsSide k begin mid p0 passed was →
      ReadsSide k mid now p0 p1 (Err fault) → FailsAfterRecords k begin now fault
  side-fails k begin mid now p0 p1 passed was f fault is side reads =
      let at-it : IsSide k begin mid p0 passed (Some f) =
      subst (IsSide k begin mid p0 passed) is side in
      reads begin (passed ++ f ∷ []) at-it.0 at-it.1

  pub first-on : (old mid : Sides) (p q : List DataRecord) (f : DataRecord)
      (next : Option DataRecord) (now0 now1 now' : Option (List ℕ)) (p0 p1 p' : Progress) →
      old.first ≡ Some f → IsAfter f.start old.second →
      AreSides from from' (at now0 now' p0 p') old p q → PassesFirst old mid →
      ReadsSide l now0 now1 p0 p1 (Ok next) →
      IsSide l from now1 p1 (p ++ f ∷ []) next × IsSide l' from' now' p' q mid.second
      × is_passed mid (p ++ f ∷ []) q next mid.second
      × (left_of l p1 next + left_of l' p' mid.second < left_of_both (at now0 now' p0 p') old)
  first-on old mid p q f next now0 now1 now' p0 p1 p' is after are passes reads =
      let side = next-side l from now0 now1 p0 p1 p old.first f next is are.first reads in
      let keeps = passes.0 in
      let same = ap (left_of l' p') keeps.2 in (
        side.0,
        subst (IsSide l' from' now' p' q) (sym keeps.2) are.second,
        subst (λ (o : Option DataRecord). is_passed mid (p ++ f ∷ []) q next o)
            (sym keeps.2) (passes.1 f p q next is after are.passed),
        omega (arith, side.1, same),
      )

  pub second-on : (old mid : Sides) (p q : List DataRecord) (s : DataRecord)
      (next : Option DataRecord) (now now0 now1 : Option (List ℕ)) (p1 p0 p' : Progress) →
      old.second ≡ Some s → IsAfter s.start old.first →
      AreSides from from' (at now now0 p1 p0) old p q → PassesSecond old mid →
      ReadsSide l' now0 now1 p0 p' (Ok next) →
      IsSide l from now p1 p mid.first × IsSide l' from' now1 p' (q ++ s ∷ []) next
      × is_passed mid p (q ++ s ∷ []) mid.first next
      × (left_of l p1 mid.first + left_of l' p' next < left_of_both (at now now0 p1 p0) old)
  second-on old mid p q s next now now0 now1 p1 p0 p' is after are passes reads =
      let side = next-side l' from' now0 now1 p0 p' q old.second s next is are.second reads in
      let keeps = passes.0 in
      let same = ap (left_of l p1) keeps.1 in (
        subst (IsSide l from now p1 p) (sym keeps.1) are.first,
        side.0,
        subst (λ (o : Option DataRecord). is_passed mid p (q ++ s ∷ []) o next)
            (sym keeps.1) (passes.1 s p q next is after are.passed),
        omega (arith, side.1, same),
      )

  pub both-on : (old mid : Sides) (p q : List DataRecord) (f s : DataRecord)
      (next next' : Option DataRecord) (now0 now1 now0' now1' : Option (List ℕ))
      (p0 p1 p0' p1' : Progress) → old.first ≡ Some f → old.second ≡ Some s →
      f.start ≡ s.start → AreSides from from' (at now0 now0' p0 p0') old p q →
      PassesBoth old mid → ReadsSide l now0 now1 p0 p1 (Ok next) →
      ReadsSide l' now0' now1' p0' p1' (Ok next') →
      IsSide l from now1 p1 (p ++ f ∷ []) next × IsSide l' from' now1' p1' (q ++ s ∷ []) next'
      × is_passed mid (p ++ f ∷ []) (q ++ s ∷ []) next next'
      × (left_of l p1 next + left_of l' p1' next' < left_of_both (at now0 now0' p0 p0') old)
  both-on old mid p q f s next next' now0 now1 now0' now1' p0 p1 p0' p1' is is' same are passes
      reads reads' =
      let side = next-side l from now0 now1 p0 p1 p old.first f next is are.first reads in
      let side' = next-side l' from' now0' now1' p0' p1' q old.second s next' is' are.second reads'
      in (
        side.0,
        side'.0,
        passes.1 f s p q next next' is is' same are.passed,
        omega (arith, side.1, side'.1),
      )

  pub first-fails : (old : Sides) (p q : List DataRecord) (f : DataRecord)
      (fault : FragmentFault) (now0 now1 now' : Option (List ℕ)) (p0 p1 p' : Progress) →
      old.first ≡ Some f → AreSides from from' (at now0 now' p0 p') old p q →
      ReadsSide l now0 now1 p0 p1 (Err fault) → FailsAfterRecords l from now1 fault
  first-fails old p q f fault now0 now1 now' p0 p1 p' is are reads =
      side-fails l from now0 now1 p0 p1 p old.first f fault is are.first reads

  pub second-fails : (old : Sides) (p q : List DataRecord) (s : DataRecord)
      (fault : FragmentFault) (now now0 now1 : Option (List ℕ)) (p1 p0 p' : Progress) →
      old.second ≡ Some s → AreSides from from' (at now now0 p1 p0) old p q →
      ReadsSide l' now0 now1 p0 p' (Err fault) → FailsAfterRecords l' from' now1 fault
  second-fails old p q s fault now now0 now1 p1 p0 p' is are reads =
      side-fails l' from' now0 now1 p0 p' q old.second s fault is are.second reads

  pub none-on : (old : Sides) (p q : List DataRecord) (now now' : Option (List ℕ))
      (p0 p0' : Progress) → old.first ≡ None → old.second ≡ None →
      AreSides from from' (at now now' p0 p0') old p q →
      ReadsRecords l from now p × ReadsRecords l' from' now' q × is_passed old p q None None
  none-on old p q now now' p0 p0' is is' are = (
    subst (IsSide l from now p0 p) is are.first,
    subst (IsSide l' from' now' p0' q) is' are.second,
    subst (λ (o : Option DataRecord). is_passed old p q o None) is
        (subst (λ (o : Option DataRecord). is_passed old p q old.first o) is' are.passed),
  )

pub one-some : (x y : DataRecord) (o : Option DataRecord) → o ≡ Some x → o ≡ Some y → x ≡ y
one-some x y o is is' = ap or-else (sym is ∙ is')
  where
    or-else : Option DataRecord → DataRecord
    or-else None = x
    or-else (Some z) = z

-- ---- the loop

-- the first answer of a file
pub begin-side : (l : Layout) (left now : Option (List ℕ)) (p q : Progress)
    (result : Result (Option DataRecord) FragmentFault) → p ≡ initial_progress →
    ReadsSide l left now p q result → MatchResult result (λ next. IsSide l left now q [] next)
    (FailsAfterRecords l left now)
begin-side l left now p q (Ok next) is reads =
    (reads left [] (subst (HasReadRecords l left left []) (sym is) (reads_none l left))
    (ap (λ (x : Progress). x.state) is)).0
begin-side l left now p q (Err fault) is reads =
    reads left [] (subst (HasReadRecords l left left []) (sym is) (reads_none l left))
    (ap (λ (x : Progress). x.state) is)

-- a step of files of the same layouts
pub on-layouts : (l m l' m' : Layout) (now0 now0' now1 now1' : Option (List ℕ))
    (p0 p0' p1 p1' : Progress) (old new : Sides) (result : Result Bool SideFault) → l ≡ m →
    l' ≡ m' → ((from from' : Option (List ℕ)) (p q : List DataRecord) →
    AreSides from from' (files-at l l' now0 now0' p0 p0') old p q →
    Advances from from' (files-at l l' now0 now0' p0 p0') (files-at l l' now1 now1' p1 p1') old new
    p q result) → (from from' : Option (List ℕ)) (p q : List DataRecord)
    (other : Result Bool SideFault) → result ≡ other →
    AreSides from from' (files-at m m' now0 now0' p0 p0') old p q →
    Advances from from' (files-at m m' now0 now0' p0 p0') (files-at m m' now1 now1' p1 p1') old new
    p q other
on-layouts l m l' m' now0 now0' now1 now1' p0 p0' p1 p1' old new result is is' step from from' p q
    other same are =
    let at-first = subst (λ (x : Layout). (p q : List DataRecord) →
    AreSides from from' (files-at x l' now0 now0' p0 p0') old p q →
    Advances from from' (files-at x l' now0 now0' p0 p0') (files-at x l' now1 now1' p1 p1') old new
    p q result) is (step from from') in
    let at-both = subst (λ (x : Layout). (p q : List DataRecord) →
    AreSides from from' (files-at m x now0 now0' p0 p0') old p q →
    Advances from from' (files-at m x now0 now0' p0 p0') (files-at m x now1 now1' p1 p1') old new
    p q result) is' at-first in
    subst (Advances from from' (files-at m m' now0 now0' p0 p0') (files-at m m' now1 now1' p1 p1')
    old new p q) same (at-both p q are)

pub advance-fault : (from from' : Option (List ℕ)) (f g : Files) (old new : Sides)
    (p q : List DataRecord) (fault : SideFault) → Advances from from' f g old new p q (Err fault) →
    IsSideFault g.layout g.layout' from g.now from' g.now' fault
advance-fault from from' f g old new p q (OfFirst fault) is = is
advance-fault from from' f g old new p q (OfSecond fault) is = is
advance-fault from from' f g old new p q Memory is = tt
