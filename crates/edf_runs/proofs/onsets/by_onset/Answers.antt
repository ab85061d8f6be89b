use Rattle.std.proofs.Common.{◌≡◌, ℕ, List, map, refl, sym, ap, ◌∙◌, subst}
use Rattle.std.proofs.lemmas.Result.{err_from_is_err_and}
use Rattle.edf_field.specs.Number.{duration_of}
use Rattle.edf_header.specs.Key.{Key}
use Rattle.edf_tal.specs.Tal.{Annotation}
use Rattle.edf_fragment.specs.Fragment.{DataRecord}
use Rattle.edf_runs.specs.ByOnset.{annotations_of, by_onset}
use Rattle.edf_runs.specs.Inside.Counting.{AreCountsOf, HaveCrowded}
use Rattle.edf_runs.specs.Inside.Spreading.{spread}
use Rattle.edf_runs.specs.Order.{in_order}
use Rattle.edf_runs.proofs.OutlineByOnset.{by-onset-spread, outline-by-onset}
use Rattle.edf_runs.proofs.onsets.by_onset.Goals as goal

pub returns-in_err-counts : goal.returns-in_err-counts
returns-in_err-counts c = λ k records is.
    let p = err_from_is_err_and c.from_residual-in_err-counts.result
    c.from_residual-in_err-counts.ensures.1 in
    let fault = c.in_err-counts.field-0.0 in
    let starts : map (λ (r : DataRecord). r.start) records ≡ c.as_slice.result.now =
    sym (c.as_slice.ensures.value ∙ is.spans.starts) in
    let notes : c.as_slice-2.result.now ≡ in_order (annotations_of records) =
    c.as_slice-2.ensures.value ∙ c.in_ok-notes.ensures ∙ ap in_order is.spans.notes in
    let lasts : c.duration.result ≡ duration_of k.duration =
    c.duration.ensures.value ∙ ap (λ (x : Key). duration_of x.duration) is.identity in
    rw (p.1, p.2) (subst (λ (d : ℕ). HaveCrowded d (by_onset records) fault) lasts
    (subst (λ (l : List DataRecord). HaveCrowded c.duration.result l fault)
    (ap (λ (l : List Annotation). spread l records) notes ∙ by-onset-spread k records is.sound)
    (c.in_err-counts.ensures records starts)))

pub returns : goal.returns
returns c = λ k records is.
    let starts : map (λ (r : DataRecord). r.start) records ≡ c.as_slice.result.now =
    sym (c.as_slice.ensures.value ∙ is.spans.starts) in
    let notes : c.as_slice-2.result.now ≡ in_order (annotations_of records) =
    c.as_slice-2.ensures.value ∙ c.in_ok-notes.ensures ∙ ap in_order is.spans.notes in
    outline-by-onset k records c.args.outline _ is refl refl c.in_ok-notes.ensures
    (subst (λ (l : List Annotation). AreCountsOf (spread l records) c.in_ok-counts.counts.items)
    notes (c.in_ok-counts.ensures records starts))
