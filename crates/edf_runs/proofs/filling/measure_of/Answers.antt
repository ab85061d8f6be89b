use Rattle.std.proofs.Common.{◌≡◌, List, ℕ, ◌++◌, ◌∷◌, [], ap, ◌∙◌, subst, arith, Option, Some}
use Rattle.edf_fragment.specs.Fragment.{DataRecord}
use Rattle.edf_canonical.specs.Measure.{IsMeasured}
use Rattle.edf_canonical.specs.declared.measure.Measure.{Measure}
use Rattle.edf_runs.specs.Inside.ToCome.{TakesPlace, TakesNext}
use Rattle.edf_runs.proofs.MeasuredPlaces.{MeasuredTo, none-passed, one-passed, all-passed}
use Rattle.edf_runs.proofs.filling.measure_of.Goals as goal

pub places-init : goal.places-init
places-init c = λ placed few next start. none-passed c.args.places next placed start

pub places-preserved : goal.places-preserved
places-preserved c = λ placed few next start.
    let place = c.in-Some.place in
    let takes : TakesPlace c.places.places c.next.new.self place =
    subst (TakesNext c.places.places c.next.new.self) c.in-Some.is c.in_ok-place.ensures in
    let bare = c.in-Some-new.ensures.1 ∙ ap (λ (l : List ℕ). record {
      start = place.start;
      samples = l;
      annotations = place.notes.items;
    }) c.new.ensures.items in
    one-passed c.args.places next c.places.places c.next.new.self place c.places.measure
    c.after.result c.places.counter (omega (arith, c.places-test.true, few))
    (c.places.invariant placed few next start) takes
    (λ rs so short. subst (λ (r : DataRecord). IsMeasured (rs ++ r ∷ []) c.after.result) bare
    (c.after.ensures.measured rs so short))

pub returns-in-Some-measure : goal.returns-in-Some-measure
returns-in-Some-measure c = λ placed few next start is.
    let all : c.places.counter ≡ c.args.count =
    omega (arith, c.places-test.false, c.places.auto.counter-end) in
    all-passed c.args.places next c.places.places c.in-Some-measure.measure c.args.count is
    (subst (λ (n : ℕ). MeasuredTo c.args.places next c.places.places
    (Some c.in-Some-measure.measure) n) all
    (subst (λ (m : Option Measure). MeasuredTo c.args.places next c.places.places m
    c.places.counter) c.in-Some-measure.is (c.places.invariant placed few next start)))
