use Rattle.std.proofs.Common.{subst}
use Rattle.edf_runs.specs.Inside.Selecting.{TakesFirst, TakesSpot}
use Rattle.edf_runs.proofs.MeasuredCut.{more-measured}
use Rattle.edf_runs.proofs.cutting.measure_of.Goals as goal

pub spots-preserved : goal.spots-preserved
spots-preserved c = λ k records is.
    let taken : TakesFirst c.spots.spots c.take.new.self c.in-Some.slot =
    subst (TakesSpot c.spots.spots c.take.new.self) c.in-Some.is c.in_ok-slot.ensures in
    more-measured c.args.window records c.spots.spots c.take.new.self c.spots.measure
    c.in_ok-measure.measure c.in-Some.slot is.few (c.spots.invariant k records is) taken
    c.in_ok-measure.ensures
