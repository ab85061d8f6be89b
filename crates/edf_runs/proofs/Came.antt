-- The data records of a filled file that a second reading gave are those of its places.
use Rattle.std.proofs.Common.{◌≡◌, ℕ, ◌+◌, List, [], ◌∷◌, ◌++◌, length, map}
use Rattle.std.proofs.Common.{take}
use Rattle.std.proofs.Common.{drop, sym, ap, ◌∙◌, subst, arith, append_assoc, append-nil}
use Rattle.std.proofs.Common.{Option, Some, None, Ok}
use Rattle.std.specs.List.{AllByRecursion}
use Rattle.std.proofs.lemmas.List.{map-append}
use Rattle.edf_header.specs.Header.{Layout}
use Rattle.edf_tal.specs.Tal.{Annotation}
use Rattle.edf_fragment.specs.Fragment.{DataRecord}
use Rattle.edf_fragment.specs.Sound.{IsValidRecord}
use Rattle.edf_fragment.specs.declared.advance.Progress.{Progress}
use Rattle.edf_fragment.specs.declared.open_fragment.OpenFragment.{OpenFragment}
use Rattle.edf_fragment.specs.declared.streams.Input.{Ghosts}
use Rattle.edf_canonical.specs.Source.{At, Answers}
use Rattle.edf_runs.specs.Read.{ReadsOn}
use Rattle.edf_runs.specs.Inside.Placing.{bare}
use Rattle.edf_runs.specs.Inside.Refilling.{ReadsNone, Fetches, FillsNext}
use Rattle.edf_runs.specs.Inside.Spreading.{count_before, spread}
use Rattle.edf_runs.specs.Inside.Steps.{StepsOn}
use Rattle.edf_runs.specs.Inside.ToCome.{StartAt, place_start, samples_from, records_from, IsPlaced}
use Rattle.edf_runs.specs.Inside.ToCome.{samples_to_come, to_come, Comes, TakesPlace}
use Rattle.edf_runs.specs.declared.filled_places.Origin.{Origin}
use Rattle.edf_runs.specs.declared.filled_places.Origin.TheVariants.{Flat, First, Later}
use Rattle.edf_runs.specs.declared.filled_places.Place.{Place}
use Rattle.edf_runs.specs.declared.filled_places.Places.{Places}
use Rattle.edf_runs.specs.declared.filled_source.FilledSource.{FilledSource}
use Rattle.edf_runs.specs.declared.parted.FilledParts.{FilledParts}
use Rattle.edf_runs.proofs.SecondReading.{one_more}

abbrev pub samples_in : Option DataRecord → List ℕ
samples_in None = []
samples_in (Some r) = r.samples

pub all-push : (P : DataRecord → Type 0) (rs : List DataRecord) (r : DataRecord) →
    AllByRecursion P rs → P r → AllByRecursion P (rs ++ r ∷ [])
all-push P [] r all p = (p, tt)
all-push P (x ∷ xs) r all p = (all.0, all-push P xs r all.1 p)

abbrev pub starts_of : List DataRecord → List ℕ
starts_of records = map (λ (r : DataRecord). r.start) records

-- data records of places, with samples of these parts
module _ (parts : FilledParts) (nth left : ℕ) (last : List ℕ) (notes : List Annotation)
    (next : List DataRecord) where
  first-place : (r : DataRecord) (more : List (List ℕ)) →
      samples_from parts nth left last next ≡ r.samples ∷ more → r.start ≡ place_start parts nth →
      r.annotations ≡ take (count_before notes
      (bare parts.division.unit (place_start parts nth + parts.division.unit) more)) notes →
      records_from parts nth left last notes next ≡ r ∷ spread (drop (count_before notes
      (bare parts.division.unit (place_start parts nth + parts.division.unit) more)) notes)
      (bare parts.division.unit (place_start parts nth + parts.division.unit) more)
  first-place r more come start annotations =
      let u = parts.division.unit in
      let at = place_start parts nth in
      let behind = bare u (at + u) more in
      let n = count_before notes behind in
      ap (λ (ss : List (List ℕ)). spread notes (bare u at ss)) come
      ∙ ap (λ (x : ℕ). record { start = x; samples = r.samples; annotations = take n notes }
      ∷ spread (drop n notes) behind) (sym start)
      ∙ ap (λ (x : List Annotation). record
      { start = r.start; samples = r.samples; annotations = x }
      ∷ spread (drop n notes) behind) (sym annotations)

-- the next place, and those behind it
pub one-comes : (from to : Places) (place : Place) → TakesPlace from to place → IsPlaced from →
    (last last' : List ℕ) (next next' : List DataRecord) (r : DataRecord) →
    StartAt to.later.now next' →
    samples_to_come from last next ≡ r.samples ∷ samples_to_come to last' next' →
    r.start ≡ place.start → r.annotations ≡ place.notes.items →
    to_come from last next ≡ r ∷ to_come to last' next'
one-comes from to place takes placed last last' next next' r same come start notes =
    let parts = from.parts.now in
    let u = parts.division.unit in
    let more = samples_to_come to last' next' in
    let counted = takes.counted placed last' next' same in
    let at : place.start ≡ place_start parts from.nth = takes.start in
    let count : takes.count ≡ count_before from.notes.now
    (bare u (place_start parts from.nth + u) more) =
    counted ∙ ap (λ (x : ℕ). count_before from.notes.now (bare u (x + u) more)) at in
    let one = first-place parts from.nth from.left last from.notes.now next r more come
    (start ∙ at) (notes ∙ takes.here ∙ ap (λ (n : ℕ). take n from.notes.now) count) in
    let step-on : place_start parts from.nth + u ≡ place_start parts (from.nth + 1) =
    omega arith in
    let behind : place_start parts from.nth + u ≡ place_start parts to.nth =
    step-on ∙ ap (place_start parts) (sym takes.nth) in
    let rest : spread (drop (count_before from.notes.now
    (bare u (place_start parts from.nth + u) more)) from.notes.now)
    (bare u (place_start parts from.nth + u) more) ≡ to_come to last' next' =
    ap (λ (n : ℕ). spread (drop n from.notes.now)
    (bare u (place_start parts from.nth + u) more)) (sym count)
    ∙ ap (λ (x : List Annotation). spread x
    (bare u (place_start parts from.nth + u) more)) (sym takes.later)
    ∙ ap (λ (x : ℕ). spread to.notes.now (bare u x more)) behind
    ∙ ap (λ (p : FilledParts). spread to.notes.now
    (bare p.division.unit (place_start p to.nth) more))
    (ap (λ p. p.now) (sym takes.parts)) in
    one ∙ ap (λ (x : List DataRecord). r ∷ x) rest

module _ {R : Type 0} (g : Ghosts R) where
  -- some data records were read, and the samples of the next place came
  record Came (old new : OpenFragment) (left rest : R) (from to : Places) (last last' : List ℕ)
      (samples : List ℕ) : Type 0 where
    read : List DataRecord
    later : from.later.now ≡ starts_of read ++ to.later.now
    more : (l : Layout) (first : Progress) (before : Option (List ℕ)) (rs : List DataRecord) →
        old.header ≡ l → ReadsOn l first old.progress before (g.remaining left) rs →
        ReadsOn l first new.progress before (g.remaining rest) (rs ++ read)
    come : (next : List DataRecord) → StartAt to.later.now next →
        samples_to_come from last (read ++ next) ≡ samples ∷ samples_to_come to last' next

  reads-none : (old new : OpenFragment) (left rest : R) → ReadsNone g old new left rest →
      (l : Layout) (first : Progress) (before : Option (List ℕ)) (rs : List DataRecord) →
      old.header ≡ l → ReadsOn l first old.progress before (g.remaining left) rs →
      ReadsOn l first new.progress before (g.remaining rest) (rs ++ [])
  reads-none old new left rest none l first before rs header reads =
      subst (λ (x : List DataRecord). ReadsOn l first new.progress before (g.remaining rest) x)
      (sym (append-nil rs))
      (subst (λ (x : Option (List ℕ)). ReadsOn l first new.progress before x rs) (sym none.unread)
      (subst (λ (p : Progress). ReadsOn l first p before (g.remaining left) rs)
      (sym none.progress) reads))

  module _ (old new : OpenFragment) (left rest : R) (from to : Places)
      (last last' : Option DataRecord) (samples : List ℕ) where
    came : (origin : Origin) → Comes from to origin →
        Fetches g from.parts.now old new left rest origin last last' samples →
        Came old new left rest from to (samples_in last) (samples_in last') samples
    came Flat comes (none, kept, are) = record {
      read = [];
      later = sym comes.0;
      more = reads-none old new left rest none;
      come = λ next same. comes.1 (samples_in last) next same
          ∙ ap (λ (s : List ℕ). s ∷ samples_to_come to (samples_in last) next) (sym are)
          ∙ ap (λ (o : Option DataRecord). samples ∷ samples_to_come to (samples_in o) next)
          (sym kept);
    }
    came (First start) comes (r, step, now, are) = record {
      read = r ∷ [];
      later = comes.0 ∙ ap (λ (s : ℕ). s ∷ to.later.now) (sym step.start);
      more = λ l first before rs header reads. one_more l first old.progress new.progress before
          (g.remaining left) (g.remaining rest) rs start r reads
          (subst (λ (x : Layout). StepsOn x old.progress new.progress (g.remaining left)
          (g.remaining rest) start r) header step);
      come = λ next same. comes.1 (samples_in last) r next step.start same
          ∙ ap (λ (s : List ℕ). s ∷ samples_to_come to r.samples next) (sym are)
          ∙ ap (λ (o : Option DataRecord). samples ∷ samples_to_come to (samples_in o) next)
          (sym now);
    }
    came (Later nth) comes (r, none, was, now, are) = record {
      read = [];
      later = sym comes.0;
      more = reads-none old new left rest none;
      come = λ next same.
          ap (λ (o : Option DataRecord). samples_to_come from (samples_in o) next) was
          ∙ comes.1 r.samples next same
          ∙ ap (λ (s : List ℕ). s ∷ samples_to_come to r.samples next) (sym are)
          ∙ ap (λ (o : Option DataRecord). samples ∷ samples_to_come to (samples_in o) next)
          (sym now);
    }

  -- one data record after another
  module _ (l : Layout) (first : Progress) (before : Option (List ℕ)) (begin : FilledSource) where
    abbrev all_of : List DataRecord → List DataRecord
    all_of records = to_come begin.places (samples_in begin.last) records

    -- where places rise, these were read, and those that were given are the first of all
    pub record IsFilledSoFar (now : At FilledSource OpenFragment R) (rs : List DataRecord) : Type 0
      where
        pub records : List DataRecord
        pub reads : ReadsOn l first now.file.progress before (g.remaining now.input) records
        pub later : begin.places.later.now ≡ starts_of records ++ now.source.places.later.now
        pub placed : IsPlaced now.source.places
        pub given : (next : List DataRecord) → StartAt now.source.places.later.now next →
            all_of (records ++ next) ≡ rs
            ++ to_come now.source.places (samples_in now.source.last) next

    -- these were given so far
    pub record HasFilled (now : At FilledSource OpenFragment R) (rs : List DataRecord) : Type 0
      where
        pub header : now.file.header ≡ l
        pub parts : now.source.places.parts ≡ begin.places.parts
        pub bytes : now.source.bytes ≡ begin.bytes
        pub valid : AllByRecursion IsValidRecord rs
        pub sizes : AllByRecursion (λ (r : DataRecord). length r.samples ≡ begin.bytes) rs
        pub read : IsPlaced begin.places → IsFilledSoFar now rs

    module _ (mid to : At FilledSource OpenFragment R) (rs : List DataRecord) (r : DataRecord)
        (so : HasFilled mid rs) (step : Answers (FillsNext g) mid to (Ok (Some r))) where
      -- one more, where places rise
      more-filled : IsFilledSoFar mid rs → IsFilledSoFar to (rs ++ r ∷ [])
      more-filled was =
          let is = step.answers in
          let from = mid.source.places in
          let then = to.source.places in
          let takes = is.takes in
          let goes = takes.goes was.placed in
          let came-so = came mid.file to.file mid.input to.input from then mid.source.last
          to.source.last r.samples is.place.origin goes.1 is.fetched in
          record {
            records = was.records ++ came-so.read;
            reads = came-so.more l first before was.records so.header was.reads;
            later = was.later
                ∙ ap (λ (x : List ℕ). starts_of was.records ++ x) came-so.later
                ∙ sym (append_assoc (starts_of was.records) (starts_of came-so.read)
                then.later.now)
                ∙ ap (λ (x : List ℕ). x ++ then.later.now)
                (sym (map-append (λ (x : DataRecord). x.start) was.records came-so.read));
            placed = goes.0;
            given = λ next same.
                let later-same : StartAt from.later.now (came-so.read ++ next) =
                map-append (λ (x : DataRecord). x.start) came-so.read next
                ∙ ap (λ (x : List ℕ). starts_of came-so.read ++ x) same ∙ sym came-so.later in
                ap all_of (append_assoc was.records came-so.read next)
                ∙ was.given (came-so.read ++ next) later-same
                ∙ ap (λ (x : List DataRecord). rs ++ x) (one-comes from then is.place takes
                was.placed (samples_in mid.source.last) (samples_in to.source.last)
                (came-so.read ++ next) next r same (came-so.come next same) is.start is.notes)
                ∙ sym (append_assoc rs (r ∷ [])
                (to_come then (samples_in to.source.last) next));
          }

      pub one-filled : HasFilled to (rs ++ r ∷ [])
      one-filled =
          let is = step.answers in
          record {
            header = step.header ∙ so.header;
            parts = is.takes.parts ∙ so.parts;
            bytes = step.bytes ∙ so.bytes;
            valid = all-push IsValidRecord rs r so.valid is.valid;
            sizes = all-push (λ (x : DataRecord). length x.samples ≡ begin.bytes) rs r so.sizes
                (is.size ∙ so.bytes);
            read = λ placed. more-filled (so.read placed);
          }
