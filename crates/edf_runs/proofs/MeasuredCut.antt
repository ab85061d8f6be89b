-- The measure of those data records of an outline that last in a time.
use Rattle.std.proofs.Common.{◌≡◌, ℕ, ◌+◌, ◌<◌, ◌≤◌, List, [], ◌∷◌, ◌++◌, length, refl}
use Rattle.std.proofs.Common.{sym, ap}
use Rattle.std.proofs.Common.{◌∙◌, subst, arith}
use Rattle.std.proofs.Common.{Option, Some, None}
use Rattle.std.specs.Prelude.{Bool, true, false, cond, filter, min, max, nat_lt}
use Rattle.std.proofs.lemmas.List.Elements.{filter-append}
use Rattle.edf_header.specs.Key.{Key}
use Rattle.edf_header.specs.declared.limits.TheConstants.{MOST_RECORDS}
use Rattle.edf_tal.specs.Canonical.{tals_text}
use Rattle.edf_fragment.specs.Fragment.{DataRecord}
use Rattle.edf_canonical.specs.File.{block_of}
use Rattle.edf_canonical.specs.Measure.{IsMeasuredSoFar}
use Rattle.edf_canonical.specs.declared.measure.Measure.{Measure}
use Rattle.edf_canonical.proofs.Measures.{measured-other}
use Rattle.edf_runs.specs.Outline.{IsOutline}
use Rattle.edf_runs.specs.Inside.Selecting.{in_window, TakesFirst, MeasuresOne}
use Rattle.edf_runs.specs.declared.cut.Window.{Window}
use Rattle.edf_runs.specs.declared.outline.Outline.{Outline}
use Rattle.edf_runs.specs.declared.spots.Spots.{Spots}
use Rattle.edf_runs.proofs.AtSpots.{IsAt, at-first, at-last, next-at}
use Rattle.edf_runs.proofs.Selecting.{one-selected}

pub record MeasuredSoFar (w : Window) (records : List DataRecord) (spots : Spots)
    (measure : Option Measure) : Type 0 where
  pub passed : List DataRecord
  pub at : IsAt records spots passed
  pub measured : IsMeasuredSoFar (in_window w passed) measure

pub none-measured : (w : Window) (k : Key) (records : List DataRecord) (outline : Outline)
    (spots : Spots) → IsOutline k records outline →
    spots.starts.now ≡ outline.spans.starts.items → spots.counts.now ≡ outline.spans.counts.items →
    spots.notes.now ≡ outline.spans.notes.items → MeasuredSoFar w records spots None
none-measured w k records outline spots is starts counts notes = record {
  passed = [];
  at = at-first k records outline spots is starts counts notes;
  measured = refl;
}

pub all-measured : (w : Window) (records : List DataRecord) (spots : Spots)
    (measure : Option Measure) → MeasuredSoFar w records spots measure → spots.starts.now ≡ [] →
    IsMeasuredSoFar (in_window w records) measure
all-measured w records spots measure so none =
    subst (λ (l : List DataRecord). IsMeasuredSoFar (in_window w l) measure)
    (sym (at-last records spots so.passed so.at none)) so.measured

filter-short : (p : DataRecord → Bool) (rs : List DataRecord) → length (filter p rs) ≤ length rs
filter-short p [] = omega arith
filter-short p (r ∷ rs) =
    let more = filter p rs in
    elim (p r) as (λ (b : Bool). length (cond b (r ∷ more) more) ≤ length (r ∷ rs)) [
      | true ↦ let short = filter-short p rs in omega (arith, short)
      | false ↦ let short = filter-short p rs in omega (arith, short)
    ]

module _ (bare r : DataRecord) (start : bare.start ≡ r.start)
    (notes : bare.annotations ≡ r.annotations) where
  same-block : (base : ℕ) → block_of base bare ≡ block_of base r
  same-block base = ap (λ (n : ℕ). tals_text base n bare.annotations) start
      ∙ ap (tals_text base r.start) notes

  -- samples are not measured
  so-far-other : (rs : List DataRecord) (m : Option Measure) → IsMeasuredSoFar (rs ++ bare ∷ []) m →
      IsMeasuredSoFar (rs ++ r ∷ []) m
  so-far-other rs (Some m) is = measured-other bare r m start same-block rs is
  so-far-other [] None is = cc
  so-far-other (x ∷ xs) None is = cc

  in-test : (w : Window) (b : Bool) (rs : List DataRecord) (m : Option Measure) →
      nat_lt (max w.from r.start) (min w.to (r.start + w.duration)) ≡ b →
      IsMeasuredSoFar (rs ++ in_window w (bare ∷ [])) m →
      IsMeasuredSoFar (rs ++ in_window w (r ∷ [])) m
  in-test w b rs m test is =
      let one = one-selected w r [] b test in
      let other = one-selected w bare [] b
      (ap (λ (n : ℕ). nat_lt (max w.from n) (min w.to (n + w.duration))) start ∙ test) in
      subst (λ (l : List DataRecord). IsMeasuredSoFar (rs ++ l) m) (sym one)
      (by-test b (subst (λ (l : List DataRecord). IsMeasuredSoFar (rs ++ l) m) other is))
    where
      by-test : (b : Bool) → IsMeasuredSoFar (rs ++ (cond b (bare ∷ []) [] ++ [])) m →
          IsMeasuredSoFar (rs ++ (cond b (r ∷ []) [] ++ [])) m
      by-test true is = so-far-other rs m is
      by-test false is = is

-- one more
pub more-measured : (w : Window) (records : List DataRecord) (from to : Spots)
    (before after : Option Measure) (bare : DataRecord) → length records ≤ MOST_RECORDS →
    MeasuredSoFar w records from before → TakesFirst from to bare →
    MeasuresOne w before bare after →
    MeasuredSoFar w records to after
more-measured w records from to before after bare few so taken one =
    let next = next-at records from to so.passed bare so.at taken in
    let r = next.r in
    let test = λ (x : DataRecord). nat_lt (max w.from x.start) (min w.to (x.start + w.duration)) in
    let short : length (in_window w so.passed) < MOST_RECORDS =
    let part = filter-short test so.passed in
    omega (arith, part, next.few, few) in
    record {
      passed = so.passed ++ r ∷ [];
      at = next.at;
      measured = subst (λ (l : List DataRecord). IsMeasuredSoFar l after)
          (sym (filter-append test so.passed (r ∷ [])))
          (in-test bare r next.start next.annotations w (test r) (in_window w so.passed) after refl
          (one (in_window w so.passed) so.measured short));
    }
