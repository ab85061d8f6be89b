-- The measure of all places of a filled file, one after another.
use Rattle.std.proofs.Common.{◌≡◌, ℕ, ◌+◌, ◌*◌, ◌<◌, ◌≤◌, List, [], ◌∷◌, ◌++◌, length, map}
use Rattle.std.proofs.Common.{refl, sym, ap, ◌∙◌, subst, arith, append_assoc, append-nil, get_or}
use Rattle.std.proofs.Common.{drop}
use Rattle.std.proofs.Common.{length-append, Option, Some, None}
use Rattle.std.proofs.lemmas.List.{nil_from_length}
use Rattle.std.proofs.lemmas.Simd.{map-map}
use Rattle.edf_header.specs.Key.{Key}
use Rattle.edf_header.specs.Signal.{samples}
use Rattle.edf_header.specs.declared.limits.TheConstants.{MOST_RECORDS}
use Rattle.edf_tal.specs.Tal.{Annotation}
use Rattle.edf_fragment.specs.Fragment.{DataRecord}
use Rattle.edf_canonical.specs.Measure.{IsMeasured, IsMeasuredSoFar}
use Rattle.edf_canonical.specs.declared.measure.Measure.{Measure}
use Rattle.edf_canonical.proofs.Measures.{measured-other}
use Rattle.edf_runs.specs.FillAnswers.{starts_of}
use Rattle.edf_runs.specs.Filled.{place_of}
use Rattle.edf_runs.specs.Inside.Filling.{MeasuresPlaces}
use Rattle.edf_runs.specs.Inside.Placing.{placed, at_places, filled_records}
use Rattle.edf_runs.specs.Inside.Spaced.{Spaced}
use Rattle.edf_runs.specs.Inside.Stretching.{Rise}
use Rattle.edf_runs.specs.Inside.ToCome.{StartAt, place_start, part_by, samples_from, records_from}
use Rattle.edf_runs.specs.Inside.ToCome.{IsPlaced, samples_to_come, to_come, Comes, TakesPlace}
use Rattle.edf_runs.specs.declared.filled_places.Origin.{Origin}
use Rattle.edf_runs.specs.declared.filled_places.Origin.TheVariants.{Flat, First, Later}
use Rattle.edf_runs.specs.declared.filled_places.Place.{Place}
use Rattle.edf_runs.specs.declared.filled_places.Places.{Places}
use Rattle.edf_runs.specs.declared.parted.FilledParts.{FilledParts}
use Rattle.edf_runs.proofs.Came.{one-comes}
use Rattle.edf_runs.proofs.Coming.{first-start, later-start}
use Rattle.edf_runs.proofs.FilledNotes.{places-rise-all}
use Rattle.edf_runs.proofs.FilledSamples.{length-spread}
use Rattle.edf_runs.proofs.Joined.{same-records}
use Rattle.edf_runs.proofs.Placed.{length-placed}

-- so many places were passed
pub record MeasuredTo (from : Places) (all : List DataRecord) (now : Places)
    (measure : Option Measure) (count : ℕ) : Type 0 where
  pub passed : List DataRecord
  pub last : List ℕ
  pub next : List DataRecord
  pub placed : IsPlaced now
  pub start : StartAt now.later.now next
  pub given : to_come from [] all ≡ passed ++ to_come now last next
  pub counted : count ≡ length passed
  pub measured : IsMeasuredSoFar passed measure

pub none-passed : (from : Places) (all : List DataRecord) → IsPlaced from →
    StartAt from.later.now all → MeasuredTo from all from None 0
none-passed from all placed start = record {
  passed = [];
  last = [];
  next = all;
  placed = placed;
  start = start;
  given = refl;
  counted = refl;
  measured = refl;
}

record Next (from to : Places) (last : List ℕ) (next : List DataRecord) : Type 0 where
  own : List ℕ
  last' : List ℕ
  next' : List DataRecord
  start : StartAt to.later.now next'
  come : samples_to_come from last next ≡ own ∷ samples_to_come to last' next'

next-of : (from to : Places) (origin : Origin) → Comes from to origin → (last : List ℕ)
    (next : List DataRecord) → StartAt from.later.now next → Next from to last next
next-of from to Flat comes last next start =
    let now = subst (λ (l : List ℕ). StartAt l next) (sym comes.0) start in
    record {
      own = from.parts.now.flat.items;
      last' = last;
      next' = next;
      start = now;
      come = comes.1 last next now;
    }
next-of from to (First s) comes last [] start = absurd (let f = start ∙ comes.0 in cc)
next-of from to (First s) comes last (r ∷ rs) start =
    let is = first-start s to.later.now r rs (start ∙ comes.0) in
    let now = later-start s to.later.now r rs (start ∙ comes.0) in
    record {
      own = part_by from.parts.now 0 r.samples;
      last' = r.samples;
      next' = rs;
      start = now;
      come = comes.1 last r rs is now;
    }
next-of from to (Later nth) comes last next start =
    let now = subst (λ (l : List ℕ). StartAt l next) (sym comes.0) start in
    record {
      own = part_by from.parts.now nth last;
      last' = last;
      next' = next;
      start = now;
      come = comes.1 last next now;
    }

-- one more
module _ (from : Places) (all : List DataRecord) (now to : Places) (place : Place)
    (before : Option Measure) (m : Measure) (count : ℕ) where
  pub one-passed : count < MOST_RECORDS → MeasuredTo from all now before count →
      TakesPlace now to place →
      ((records : List DataRecord) → IsMeasuredSoFar records before →
      length records < MOST_RECORDS → IsMeasured (records ++ record {
        start = place.start;
        samples = [];
        annotations = place.notes.items;
      } ∷ []) m) → MeasuredTo from all to (Some m) (count + 1)
  one-passed few so takes after =
      let goes = takes.goes so.placed in
      let n = next-of now to place.origin goes.1 so.last so.next so.start in
      let r : DataRecord = record {
        start = place.start;
        samples = n.own;
        annotations = place.notes.items;
      } in
      let one = one-comes now to place takes so.placed so.last n.last' so.next n.next' r n.start
      n.come refl refl in
      record {
        passed = so.passed ++ r ∷ [];
        last = n.last';
        next = n.next';
        placed = goes.0;
        start = n.start;
        given = so.given ∙ ap (λ (l : List DataRecord). so.passed ++ l) one
            ∙ sym (append_assoc so.passed (r ∷ []) (to_come to n.last' n.next'));
        counted = omega (arith, so.counted, length-append so.passed (r ∷ []));
        measured = measured-other (record {
          start = place.start;
          samples = [];
          annotations = place.notes.items;
        }) r m refl (λ base. refl) so.passed
            (after so.passed so.measured (omega (arith, few, so.counted)));
      }

pub all-passed : (from : Places) (all : List DataRecord) (now : Places) (measure : Measure)
    (count : ℕ) → count ≡ length (samples_to_come from [] all) →
    MeasuredTo from all now (Some measure) count → IsMeasured (to_come from [] all) measure
all-passed from all now measure count is so =
    let parts = from.parts.now in
    let rest = to_come now so.last so.next in
    let long : length (to_come from [] all) ≡ length (samples_to_come from [] all) =
    length-spread parts.division.unit (place_start parts from.nth) from.notes.now
    (samples_to_come from [] all) in
    let both : length (to_come from [] all) ≡ length (so.passed ++ rest) =
    ap (λ (l : List DataRecord). length l) so.given in
    let none : rest ≡ [] = nil_from_length rest
    (omega (arith, long, both, is, so.counted, length-append so.passed rest)) in
    subst (λ (l : List DataRecord). IsMeasured l measure)
    (sym (so.given ∙ ap (λ (l : List DataRecord). so.passed ++ l) none ∙ append-nil so.passed))
    so.measured

-- ---- all places of an outline

placed-long : (g : ℕ) (part : ℕ → List ℕ → List ℕ) (flat : List ℕ) (u first next : ℕ)
    (records : List DataRecord) (before : List ℕ) (last : ℕ) →
    Rise g next (map (place_of u first) (starts_of records)) →
    starts_of records ≡ before ++ last ∷ [] →
    next + length (placed g part flat next (at_places u first records))
    ≡ place_of u first last + g
placed-long g part flat u first next [] [] last rise is = absurd (let f = is in cc)
placed-long g part flat u first next [] (b ∷ bs) last rise is = absurd (let f = is in cc)
placed-long g part flat u first next (r ∷ []) [] last rise is =
    let long = length-placed g part flat next (place_of u first r.start, r.samples) [] rise.0 in
    let same = ap (λ (l : List ℕ). place_of u first (get_or l 0 0)) is in
    omega (arith, long, same)
placed-long g part flat u first next (r ∷ q ∷ rs) [] last rise is =
    absurd (let f = ap (λ (l : List ℕ). drop 1 l) is in cc)
placed-long g part flat u first next (r ∷ rs) (b ∷ bs) last rise is =
    let at = place_of u first r.start in
    let long = length-placed g part flat next (at, r.samples) (at_places u first rs) rise.0 in
    let more = placed-long g part flat u first (at + g) rs bs last rise.1
    (ap (λ (l : List ℕ). drop 1 l) is) in
    omega (arith, long, more)

module _ (g u : ℕ) (r : DataRecord) (rs : List DataRecord) where
  -- their places rise
  pub starts-have-places : 0 < u → Spaced (g * u) 0 (r ∷ rs) →
      Rise g 0 (map (place_of u r.start) (starts_of (r ∷ rs)))
  starts-have-places lasts spaced = subst (λ (l : List ℕ). Rise g 0 l)
      (sym (map-map (place_of u r.start) (λ (x : DataRecord). x.start) (r ∷ rs)))
      (places-rise-all g u r rs lasts spaced)

module _ (k : Key) (parts : FilledParts) (notes : List Annotation) (r : DataRecord)
    (rs : List DataRecord) (p : Places) (are : p.parts.now ≡ parts)
    (later : p.later.now ≡ starts_of (r ∷ rs)) (notes-are : p.notes.now ≡ notes) (nth : p.nth ≡ 0)
    (left : p.left ≡ 0) where
  come-all : samples_to_come p [] (r ∷ rs) ≡ samples_from parts 0 0 [] (r ∷ rs)
  come-all = ap (λ (n : ℕ). samples_from p.parts.now p.nth n [] (r ∷ rs)) left
      ∙ ap (λ (n : ℕ). samples_from p.parts.now n 0 [] (r ∷ rs)) nth
      ∙ ap (λ (q : FilledParts). samples_from q 0 0 [] (r ∷ rs)) are

  to-come-all : to_come p [] (r ∷ rs) ≡ records_from parts 0 0 [] notes (r ∷ rs)
  to-come-all = ap (λ (n : ℕ). records_from p.parts.now p.nth n [] p.notes.now (r ∷ rs)) left
      ∙ ap (λ (n : ℕ). records_from p.parts.now n 0 [] p.notes.now (r ∷ rs)) nth
      ∙ ap (λ (l : List Annotation). records_from p.parts.now 0 0 [] l (r ∷ rs)) notes-are
      ∙ ap (λ (q : FilledParts). records_from q 0 0 [] notes (r ∷ rs)) are

  placed-all : Rise parts.division.parts 0 (map (place_of parts.division.unit parts.first)
      (starts_of (r ∷ rs))) → IsPlaced p
  placed-all rise =
      let at : 0 ≡ p.nth + p.left = omega (arith, nth, left) in (
        omega (arith, left),
        subst (λ (q : FilledParts). Rise q.division.parts (p.nth + p.left)
            (map (place_of q.division.unit q.first) p.later.now)) (sym are)
            (subst (λ (l : List ℕ). Rise parts.division.parts (p.nth + p.left)
            (map (place_of parts.division.unit parts.first) l)) (sym later)
            (subst (λ (n : ℕ). Rise parts.division.parts n
            (map (place_of parts.division.unit parts.first) (starts_of (r ∷ rs)))) at rise)),
      )

  pub all-measured : (count : ℕ) (m : Measure) → parts.sizes.items ≡ map samples k.signals →
      parts.first ≡ r.start → Rise parts.division.parts 0
      (map (place_of parts.division.unit parts.first) (starts_of (r ∷ rs))) →
      count ≤ MOST_RECORDS → (before : List ℕ) (last : ℕ) →
      starts_of (r ∷ rs) ≡ before ++ last ∷ [] →
      count ≡ place_of parts.division.unit parts.first last + parts.division.parts →
      MeasuresPlaces p count m →
      IsMeasured (filled_records k parts.division.parts parts.division.unit r.start
      parts.flat.items notes (r ∷ rs)) m
  all-measured count m sizes first rise few before last end is measures =
      let long = placed-long parts.division.parts (part_by parts) parts.flat.items
      parts.division.unit parts.first 0 (r ∷ rs) before last rise end in
      let same : length (samples_to_come p [] (r ∷ rs))
      ≡ length (samples_from parts 0 0 [] (r ∷ rs)) =
      ap (λ (l : List (List ℕ)). length l) come-all in
      subst (λ (l : List DataRecord). IsMeasured l m)
      (to-come-all ∙ sym (same-records k parts notes r rs (r ∷ rs) sizes first (λ u f. refl)))
      (measures (placed-all rise) few (r ∷ rs) (sym later) (omega (arith, long, same, is)))
