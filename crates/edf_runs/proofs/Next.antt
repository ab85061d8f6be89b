-- What a second reading finds where a run that was listed comes next.
use Rattle.std.proofs.Common.{◌≡◌, ◌≢◌, ℕ, ◌+◌, ◌*◌, ◌≤◌, ◌<◌, List, [], ◌∷◌, ◌++◌, length}
use Rattle.std.proofs.Common.{refl, sym, ap, ◌∙◌, subst, arith, append_assoc, append-nil}
use Rattle.std.proofs.Common.{length-append, All, Option, None, Some, Ok, Err, Result}
use Rattle.std.proofs.Math.Nat.{suc-mul}
use Rattle.std.specs.Io.KnownBytes.{Consumes, IsAtEnd}
use Rattle.edf_field.specs.Number.{duration_of}
use Rattle.edf_header.specs.Header.{Layout, IsLayout, most_records}
use Rattle.edf_tal.specs.Block.{BlocksHaveFirstFault}
use Rattle.edf_tal.specs.declared.place.Place.{Place}
use Rattle.edf_tal.specs.declared.place.TalFault.{TalFault}
use Rattle.edf_tal.proofs.Cited.{blocks-read-no-fault}
use Rattle.edf_fragment.specs.Fragment.{DataRecord, IsDataRecord, BeginWithDataRecords, place_after}
use Rattle.edf_fragment.specs.Fragment.{blocks}
use Rattle.edf_fragment.specs.Reading.{IsNextAnswer, IsNextAnswerInState, IsNextResult, ReadsRecord}
use Rattle.edf_fragment.specs.Reading.{IsEndOfRecords}
use Rattle.edf_fragment.specs.Stops.{EndsInRecord, RefusesRecord}
use Rattle.edf_fragment.specs.declared.advance.Progress.{Progress}
use Rattle.edf_fragment.specs.declared.advance.ReaderState.{ReaderState}
use Rattle.edf_fragment.specs.declared.advance.ReaderState.TheVariants.{Reading}
use Rattle.edf_fragment.specs.declared.fault.FragmentFault.{FragmentFault}
use Rattle.edf_fragment.specs.declared.fault.FragmentFault.TheVariants.{Header as BadHeader}
use Rattle.edf_fragment.specs.declared.fault.FragmentFault.TheVariants.{CutRecord, Tal, Trailing}
use Rattle.edf_fragment.specs.declared.fault.FragmentFault.TheVariants.{Read as FailedRead}
use Rattle.edf_fragment.specs.declared.fault.FragmentFault.TheVariants.{Memory as NoMemory, Failed}
use Rattle.edf_fragment.proofs.Fronts.{same_front}
use Rattle.edf_fragment.proofs.Layouts.{record-some}
use Rattle.edf_canonical.specs.Measure.{IsMeasured}
use Rattle.edf_canonical.specs.declared.measure.Measure.{Measure}
use Rattle.edf_runs.specs.Runs.{StartFrom, IsListed}
use Rattle.edf_runs.specs.Again.{fault_again, IsFaultBy, StopsAt, ComesNext}
use Rattle.edf_canonical.specs.File.{second_of, block_of, BlocksFit}
use Rattle.edf_runs.specs.Inside.Steps.{StepsOn, HasOthers, ReadSoFar}
use Rattle.edf_runs.specs.declared.run.Run.{Run}
use Rattle.edf_runs.specs.declared.fault.WriteFault.{WriteFault}
use Rattle.edf_runs.specs.declared.fault.WriteFault.TheVariants.{Changed, Read, Memory}
use Rattle.edf_canonical.proofs.Measures.{all_front, all_last}
use Rattle.edf_runs.proofs.Growing.{run_end}
use Rattle.edf_fragment.proofs.OneFragment.{one-record}

-- ---- one more data record of known bytes

-- known bytes stay known
record IsKnown (rest : Option (List ℕ)) (all front : List ℕ) : Type 0 where
  bytes : List ℕ
  known : rest ≡ Some bytes
  parts : all ≡ front ++ bytes

consumed : (all front : List ℕ) (rest : Option (List ℕ)) → Consumes (Some all) rest front →
    IsKnown rest all front
consumed all front None read = absurd read
consumed all front (Some bytes) read = record { bytes = bytes; known = refl; parts = read }

known : (left rest : Option (List ℕ)) (all front : List ℕ) → left ≡ Some all →
    Consumes left rest front → IsKnown rest all front
known left rest all front is read =
    consumed all front rest (subst (λ (x : Option (List ℕ)). Consumes x rest front) is read)

-- what was read is all of it, where none is left
all_read : (left rest : Option (List ℕ)) (all front : List ℕ) → left ≡ Some all →
    Consumes left rest front → IsAtEnd rest → length all ≡ length front
all_read left rest all front is read end =
    let k = known left rest all front is read in
    let none : k.bytes ≡ [] = subst IsAtEnd k.known end in
    ap (λ (x : List ℕ). length x) (k.parts ∙ ap (λ (x : List ℕ). front ++ x) none
    ∙ append-nil front)

-- the data records after the one that was read
record Follows (l : Layout) (rest : Option (List ℕ)) (x r : DataRecord) (xs : List DataRecord)
    (last : Place) (after : List ℕ) : Type 0 where
  same : x ≡ r
  bytes : List ℕ
  known : rest ≡ Some bytes
  are_records : BeginWithDataRecords l (place_after l r.start) bytes xs last after

follows : (l : Layout) (from : Progress) (left rest : Option (List ℕ)) (all : List ℕ)
    (x r : DataRecord) (xs : List DataRecord) (last : Place) (after : List ℕ) → left ≡ Some all
    → BeginWithDataRecords l from.place all (x ∷ xs) last after → ReadsRecord l from left rest r →
    Follows l rest x r xs last after
follows l from left rest all x r xs last after is (front, back, parts, one, more) gives =
    let k = known left rest all gives.bytes is gives.read in
    let fronts = same_front all front back gives.bytes k.bytes parts k.parts (one.len
    ∙ sym gives.is_record.len) in
    let same : x ≡ r = one-record l from.place gives.bytes x r
    (subst (λ (z : List ℕ). IsDataRecord l from.place z x) fronts.front one) gives.is_record in
    let here = subst (λ (z : DataRecord).
    BeginWithDataRecords l (place_after l z.start) back xs last after) same more in
    record {
      same = same;
      bytes = k.bytes;
      known = k.known;
      are_records = subst (λ (z : List ℕ). BeginWithDataRecords l
          (place_after l r.start) z xs last after)
          fronts.back here;
    }

-- ---- no fault of form, where there is one more

no_end : (l : Layout) (from : Progress) (left rest : Option (List ℕ)) (all : List ℕ)
    (x : DataRecord) (xs : List DataRecord) (last : Place) (after : List ℕ) → IsLayout l →
    left ≡ Some all
    → BeginWithDataRecords l from.place all (x ∷ xs) last after → ¬ IsEndOfRecords l from left rest
no_end l from left rest all x xs last after layout is (front, back, parts, one, more) ends =
    let none = all_read left rest all [] is ends.read ends.end in
    let len : length all ≡ length front + length back = ap (λ (z : List ℕ). length z) parts
    ∙ length-append front back in
    omega (arith, none, len, one.len, record-some l layout)

no_cut : (l : Layout) (from : Progress) (left rest : Option (List ℕ)) (all : List ℕ)
    (x : DataRecord) (xs : List DataRecord) (last : Place) (after : List ℕ) (nth : ℕ) →
    left ≡ Some all
    → BeginWithDataRecords l from.place all (x ∷ xs) last after →
    ¬ EndsInRecord l from left rest nth
no_cut l from left rest all x xs last after nth is (front, back, parts, one, more) cut =
    let none = all_read left rest all cut.bytes is cut.read cut.end in
    let len : length all ≡ length front + length back = ap (λ (z : List ℕ). length z) parts
    ∙ length-append front back in
    omega (arith, none, len, one.len, cut.cut)

no_refusal : (l : Layout) (from : Progress) (left rest : Option (List ℕ)) (all : List ℕ)
    (x : DataRecord) (xs : List DataRecord) (last : Place) (after : List ℕ) (nth : ℕ)
    (fault : TalFault)
    → left ≡ Some all → BeginWithDataRecords l from.place all (x ∷ xs) last after →
    ¬ RefusesRecord l from left rest nth fault
no_refusal l from left rest all x xs last after nth fault is (
  front,
  back,
  parts,
  one,
  more,
) refuses =
    let k = known left rest all refuses.bytes is refuses.read in
    let fronts = same_front all front back refuses.bytes k.bytes parts k.parts (one.len
    ∙ sym refuses.len) in
    blocks-read-no-fault (blocks l front) l.start from.place x.start x.annotations fault one.read
    (subst (λ (z : List ℕ). BlocksHaveFirstFault (blocks l z) l.start from.place fault)
    (sym fronts.front)
    refuses.refused)

-- ---- of a run that comes next

reading : (l : Layout) (from to : Progress) (left rest : Option (List ℕ))
    (answer : Result (Option DataRecord) FragmentFault) → from.state ≡ Reading →
    IsNextAnswer l from to left rest answer
    → IsNextResult l from left rest answer
reading l from to left rest answer going is =
    let a : IsNextAnswerInState Reading l from to left rest answer =
    subst (λ (s : ReaderState). IsNextAnswerInState s l from to left rest answer) going is in
    a.1

pub has_all : (l : Layout) (from : Progress) (left : Option (List ℕ)) (run : Run)
    (n : ComesNext l from left run) → HasOthers l from left n.records []
has_all l from left run n = record {
  going = n.going;
  others = n.records;
  parts = refl;
  bytes = n.bytes;
  known = n.known;
  last = n.last;
  after = n.rest;
  are_records = n.are_records;
  within = n.within;
}

-- there is another, where fewer were read
has_next : (l : Layout) (to : Progress) (rest : Option (List ℕ)) (all records : List DataRecord)
    (h : HasOthers l to rest all records) → length records < length all → h.others ≢ []
has_next l to rest all records h few none =
    let len : length all ≡ length records + length h.others =
    ap (λ (z : List DataRecord). length z) h.parts ∙ length-append records h.others in
    let zero_others : length h.others ≡ 0 = ap (λ (z : List DataRecord). length z) none in
    omega (arith, len, few, zero_others)

more_with : (l : Layout) (from to : Progress) (left rest : Option (List ℕ))
    (all records others : List DataRecord) (bytes : List ℕ) (last : Place) (after : List ℕ)
    (instant : ℕ) (r : DataRecord)
    → others ≢ [] → all ≡ records ++ others → left ≡ Some bytes →
    BeginWithDataRecords l from.place bytes others last after →
    from.given + length others ≤ most_records l.count
    → StepsOn l from to left rest instant r → HasOthers l to rest all (records ++ r ∷ [])
more_with l from to left rest all records [] bytes last after instant r some parts known are within
    step = absurd (some refl)
more_with l from to left rest all records (x ∷ xs) bytes last after instant r some parts known are
    within step =
    let f = follows l from left rest bytes x r xs last after known are step.gives in
    let place : to.place ≡ place_after l r.start = ap (λ (z : Progress). z.place) step.progress in
    let given : to.given ≡ from.given + 1 = ap (λ (z : Progress). z.given) step.progress in
    record {
      going = ap (λ (z : Progress). z.state) step.progress;
      others = xs;
      parts = parts ∙ ap (λ (z : DataRecord). records ++ z ∷ xs) f.same
          ∙ sym (append_assoc records (r ∷ []) xs);
      bytes = f.bytes;
      known = f.known;
      last = last;
      after = after;
      are_records = subst (λ (z : Place). BeginWithDataRecords l z f.bytes xs last after)
          (sym place)
          f.are_records;
      within = omega (arith, within, given);
    }

pub has_more : (l : Layout) (from to : Progress) (left rest : Option (List ℕ))
    (all records : List DataRecord) (instant : ℕ) (r : DataRecord) →
    HasOthers l from left all records
    → length records < length all → StepsOn l from to left rest instant r →
    HasOthers l to rest all (records ++ r ∷ [])
has_more l from to left rest all records instant r h few step =
    more_with l from to left rest all records h.others h.bytes h.last h.after instant r
    (has_next l from left all records h few) h.parts h.known h.are_records h.within step

-- another fault than that of form
form : (l : Layout) (from : Progress) (left rest : Option (List ℕ)) (all : List ℕ) (x : DataRecord)
    (xs : List DataRecord) (last : Place) (after : List ℕ) (fault : FragmentFault) → left ≡ Some all
    → BeginWithDataRecords l from.place all (x ∷ xs) last after →
    from.given + length (x ∷ xs) ≤ most_records l.count →
    IsNextResult l from left rest (Err fault) → fault_again fault ≢ Changed
form l from left rest all x xs last after (BadHeader fault) is are within next same = absurd next
form l from left rest all x xs last after (CutRecord nth) is are within next same =
    no_cut l from left rest all x xs last after nth is are next
form l from left rest all x xs last after (Tal nth fault) is are within next same =
    no_refusal l from left rest all x xs last after nth fault is are next
form l from left rest all x xs last after Trailing is are within next same =
    omega (arith, within, next.all)
form l from left rest all x xs last after FailedRead is are within next same =
    let e : ◌≡◌ {A = WriteFault} Read Changed = same in cc
form l from left rest all x xs last after NoMemory is are within next same =
    let e : ◌≡◌ {A = WriteFault} Memory Changed = same in cc
form l from left rest all x xs last after Failed is are within next same = absurd next

no_stop : (l : Layout) (from : Progress) (left rest : Option (List ℕ)) (all : List ℕ)
    (x : DataRecord) (xs : List DataRecord) (last : Place) (after : List ℕ) (instant : ℕ)
    (answer : Result (Option DataRecord) FragmentFault) → IsLayout l → left ≡ Some all →
    BeginWithDataRecords l from.place all (x ∷ xs) last after
    → from.given + length (x ∷ xs) ≤ most_records l.count → x.start ≡ instant →
    IsNextResult l from left rest answer → ¬ IsFaultBy instant answer Changed
no_stop l from left rest all x xs last after instant (Ok (Some r)) layout is are within start next
    why =
    let f = follows l from left rest all x r xs last after is are next in
    why.1 (ap (λ (z : DataRecord). z.start) (sym f.same) ∙ start)
no_stop l from left rest all x xs last after instant (Ok None) layout is are within start next why =
    no_end l from left rest all x xs last after layout is are next
no_stop l from left rest all x xs last after instant (Err fault) layout is are within start next
    why = form l from left rest all x xs last after fault is are within next (sym why)

-- one of those without a gap starts as late as those before it last
start_of : (d at : ℕ) (rs xs : List DataRecord) (x : DataRecord) → StartFrom d at (rs ++ x ∷ xs) →
    x.start ≡ at + length rs * d
start_of d at [] xs x from = omega (arith, from.0)
start_of d at (y ∷ ys) xs x from =
    let e = suc-mul (length ys) d in
    let later = start_of d (at + d) ys xs x from.1 in
    omega (arith, later, e)

stop_with : (l : Layout) (from to : Progress) (left rest : Option (List ℕ)) (d at : ℕ)
    (all records others : List DataRecord) (bytes : List ℕ) (last : Place) (after : List ℕ)
    (instant : ℕ)
    → IsLayout l → others ≢ [] → all ≡ records ++ others → left ≡ Some bytes →
    BeginWithDataRecords l from.place bytes others last after
    → from.given + length others ≤ most_records l.count → from.state ≡ Reading →
    StartFrom d at all → instant ≡ at + length records * d →
    ¬ StopsAt l from to left rest instant Changed
stop_with l from to left rest d at all records [] bytes last after instant layout some parts known
    are within going start is stop = some refl
stop_with l from to left rest d at all records (x ∷ xs) bytes last after instant layout some parts
    known are within going start is stop =
    let same : x.start ≡ instant =
    start_of d at records xs x (subst (StartFrom d at) parts start) ∙ sym is in
    no_stop l from left rest bytes x xs last after instant stop.answer layout known are within
    same (reading l from to left rest stop.answer going stop.is_answer) stop.why

none_more : (xs : List DataRecord) → length xs ≡ 0 → xs ≡ []
none_more [] none = refl
none_more (x ∷ xs) none = absurd (omega (arith, none))

-- what is listed of a run is measured of it
listed_measured : (d : ℕ) (rs : List DataRecord) (run : Run) (whole : Measure) →
    IsListed d rs run → whole.first ≡ run.first → whole.records ≡ run.records →
    whole.block_samples ≡ run.block_samples → IsMeasured rs whole
listed_measured d [] run whole is first records samples =
    absurd (omega (arith, is.count, run.records_some))
listed_measured d (r ∷ rs) run whole is first records samples = record {
  first = r;
  others = rs;
  parts = refl;
  start = first ∙ sym is.starts.0;
  count = records ∙ is.count;
  holds = subst (λ n. BlocksFit (second_of n) whole.block_samples (r ∷ rs)) (sym first)
      (subst (λ n. BlocksFit (second_of run.first) n (r ∷ rs)) (sym samples) is.holds);
  least = λ fewer hold. omega (
    arith,
    samples,
    is.least fewer
        (subst (λ n. BlocksFit (second_of n) fewer (r ∷ rs)) first hold),
  );
}

-- ---- so far

module _ (l : Layout) (from mid : Progress) (left middle : Option (List ℕ)) (run : Run)
    (rs : List DataRecord) (next count : ℕ)
    (so : ReadSoFar l from mid left middle run rs next count)
    (n : ComesNext l from left run) where
  has_so_far : HasOthers l mid middle n.records rs
  has_so_far = so.first n.records (has_all l from left run n) (sym n.listed.count)

  few_listed : count < run.records → length rs < length n.records
  few_listed few = omega (arith, so.counted, few, n.listed.count)

  -- the next one is there, and starts when it was listed
  pub next_as_listed : (to : Progress) (rest : Option (List ℕ)) → IsLayout l →
      count < run.records → ¬ StopsAt l mid to middle rest next Changed
  next_as_listed to rest layout few =
      let h = has_so_far in
      stop_with l mid to middle rest (duration_of l.key.duration) run.first n.records rs h.others
      h.bytes h.last h.after next layout (has_next l mid middle n.records rs h (few_listed few))
      h.parts h.known h.are_records h.within h.going n.listed.starts so.next_is

  -- and its block fits the blocks of the run
  pub fits_as_listed : (to : Progress) (rest : Option (List ℕ)) (r : DataRecord) →
      count < run.records → StepsOn l mid to middle rest next r →
      length (block_of (second_of run.first) r) ≤ 2 * run.block_samples
  fits_as_listed to rest r few step =
      let fits : DataRecord → Type 0 =
      λ x. length (block_of (second_of run.first) x) ≤ 2 * run.block_samples in
      let h = has_more l mid to middle rest n.records rs next r has_so_far (few_listed few) step in
      all_last fits rs r (all_front fits (rs ++ r ∷ []) h.others
      (subst (λ (x : List DataRecord). All fits x) h.parts n.listed.holds))

  all_listed : count ≡ run.records → n.records ≡ rs
  all_listed all =
      let h = has_so_far in
      let len : length n.records ≡ length rs + length h.others =
      ap (λ (z : List DataRecord). length z) h.parts ∙ length-append rs h.others in
      h.parts ∙ ap (λ (x : List DataRecord). rs
      ++ x) (none_more h.others (omega (arith, len, so.counted, all, n.listed.count)))
      ∙ append-nil rs

  -- they are measured as was listed
  pub run_as_listed : count ≡ run.records → (whole : Measure) → whole.first ≡ run.first →
      whole.records ≡ run.records → whole.block_samples ≡ run.block_samples → IsMeasured rs whole
  run_as_listed all whole first records samples =
      listed_measured (duration_of l.key.duration) rs run whole
      (subst (λ x. IsListed (duration_of l.key.duration) x run) (all_listed all) n.listed) first
      records samples

  -- the run ends where was listed
  pub end_as_listed : count ≡ run.records → next ≡ run.last + duration_of l.key.duration
  end_as_listed all =
      let d = duration_of l.key.duration in
      let ends = run_end d n.records run n.listed in
      let len : length n.records * d ≡ length rs * d =
      ap (λ (z : List DataRecord). length z * d) (all_listed all) in
      omega (arith, ends, len, so.next_is)

-- a fault that is handed on
pub handed_on : {A : Type 0} (result : Result A WriteFault) (fault before : WriteFault) →
    result ≡ Err fault → fault ≡ before → result ≡ Err Changed → before ≡ Changed
handed_on result fault before is same changed = cc
