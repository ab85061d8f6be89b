-- The runs of an outline, one data record after another.
use Rattle.std.proofs.Common.{◌≡◌, ℕ, ◌<◌, ◌≤◌, List, [], ◌∷◌, ◌++◌, length, map, sym, ap, ◌∙◌}
use Rattle.std.proofs.Common.{subst, arith}
use Rattle.std.proofs.lemmas.List.{map-append}
use Rattle.edf_header.specs.Key.{Key}
use Rattle.edf_header.specs.declared.limits.TheConstants.{MOST_RECORDS}
use Rattle.edf_fragment.specs.Fragment.{DataRecord}
use Rattle.edf_runs.specs.Outline.{IsOutline}
use Rattle.edf_runs.specs.Runs.{AreListed}
use Rattle.edf_runs.specs.Inside.Selecting.{TakesFirst}
use Rattle.edf_runs.specs.declared.outline.Outline.{Outline}
use Rattle.edf_runs.specs.declared.run.Run.{Run}
use Rattle.edf_runs.specs.declared.spots.Spots.{Spots}
use Rattle.edf_runs.proofs.AtSpots.{IsAt, at-first, at-last, next-at}
use Rattle.edf_runs.proofs.BareRuns.{without_samples, as-many, bare-listed}
use Rattle.edf_runs.proofs.Growing.{nothing_listed}

pub record ListedSoFar (d : ℕ) (records : List DataRecord) (spots : Spots) (runs : List Run) :
    Type 0 where
  pub passed : List DataRecord
  pub at : IsAt records spots passed
  pub listed : AreListed d (map without_samples passed) runs

pub none-listed : (d : ℕ) (k : Key) (records : List DataRecord) (outline : Outline)
    (spots : Spots) (runs : List Run) → IsOutline k records outline →
    spots.starts.now ≡ outline.spans.starts.items → spots.counts.now ≡ outline.spans.counts.items →
    spots.notes.now ≡ outline.spans.notes.items → runs ≡ [] → ListedSoFar d records spots runs
none-listed d k records outline spots runs is starts counts notes none = record {
  passed = [];
  at = at-first k records outline spots is starts counts notes;
  listed = subst (AreListed d []) (sym none) (nothing_listed d);
}

pub all-listed : (d : ℕ) (records : List DataRecord) (spots : Spots) (runs : List Run) →
    ListedSoFar d records spots runs → spots.starts.now ≡ [] → AreListed d records runs
all-listed d records spots runs so none =
    bare-listed d records runs (subst (λ (l : List DataRecord).
    AreListed d (map without_samples l) runs)
    (sym (at-last records spots so.passed so.at none)) so.listed)

pub one-listed : (d : ℕ) (records : List DataRecord) (from to : Spots) (before after : List Run)
    (spot : DataRecord) → length records ≤ MOST_RECORDS → ListedSoFar d records from before →
    TakesFirst from to spot → ((rs : List DataRecord) → length rs < MOST_RECORDS →
    AreListed d rs before → AreListed d (rs ++ without_samples spot ∷ []) after) →
    ListedSoFar d records to after
one-listed d records from to before after spot few so taken adds =
    let next = next-at records from to so.passed spot so.at taken in
    let same : without_samples spot ≡ without_samples next.r = λ i. record {
      start = next.start i;
      samples = [];
      annotations = next.annotations i;
    } in
    let len = as-many so.passed in
    let short : length (map without_samples so.passed) < MOST_RECORDS =
    omega (arith, len, next.few, few) in
    record {
      passed = so.passed ++ next.r ∷ [];
      at = next.at;
      listed = subst (λ (l : List DataRecord). AreListed d l after)
          (ap (λ (x : DataRecord). map without_samples so.passed ++ x ∷ []) same
          ∙ sym (map-append without_samples so.passed (next.r ∷ [])))
          (adds (map without_samples so.passed) short so.listed);
    }
