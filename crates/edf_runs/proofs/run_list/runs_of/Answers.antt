use Rattle.std.proofs.Common.{◌≡◌, ℕ, List, [], ◌∷◌, ◌++◌, sym, ap, ◌∙◌, subst, rules}
use Rattle.edf_field.specs.Number.{duration_of}
use Rattle.edf_header.specs.Key.{Key}
use Rattle.edf_fragment.specs.Fragment.{DataRecord}
use Rattle.edf_runs.specs.Inside.Selecting.{TakesFirst, TakesSpot}
use Rattle.edf_runs.specs.Runs.{AreListed}
use Rattle.edf_runs.proofs.BareRuns.{without_samples}
use Rattle.edf_runs.proofs.RunsOfOutline.{all-listed, one-listed}
use Rattle.edf_runs.proofs.run_list.runs_of.Goals as goal

pub returns-in_default : goal.returns-in_default
returns-in_default c = λ k records is.
    let none : c.spots.spots.starts.now ≡ [] = search rules in
    all-listed (duration_of k.duration) records c.spots.spots c.spots.runs.items
    (c.spots.invariant k records is) none

pub spots-preserved : goal.spots-preserved
spots-preserved c = λ k records is.
    let slot = c.in-Some.slot in
    let after = c.add_record.new.runs.items in
    let taken : TakesFirst c.spots.spots c.take.new.self slot =
    subst (TakesSpot c.spots.spots c.take.new.self) c.in-Some.is c.in_ok-slot.ensures in
    let lasts : c.duration-duration.result ≡ duration_of k.duration =
    c.duration-duration.ensures.value ∙ ap (λ (x : Key). duration_of x.duration) is.identity in
    let bare : c.in-Some-new.bare ≡ without_samples slot =
    c.in-Some-new.ensures.1 ∙ ap (λ (l : List ℕ). record {
      start = c.slot.inside.start;
      samples = l;
      annotations = c.slot.inside.notes.items;
    }) c.new.ensures.items ∙ ap without_samples c.slot.view_is in
    one-listed (duration_of k.duration) records c.spots.spots c.take.new.self c.spots.runs.items
    after slot is.few (c.spots.invariant k records is) taken
    (λ rs short listed. subst (λ (n : ℕ). AreListed n (rs ++ without_samples slot ∷ []) after) lasts
    (subst (λ (x : DataRecord). AreListed c.duration-duration.result (rs ++ x ∷ []) after) bare
    (c.in_ok-add_record.ensures rs short
    (subst (λ (n : ℕ). AreListed n rs c.spots.runs.items) (sym lasts) listed))))
