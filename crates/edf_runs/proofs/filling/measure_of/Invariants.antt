use Rattle.std.proofs.Common.{List, ◌≤◌}
use Rattle.edf_header.specs.declared.limits.TheConstants.{MOST_RECORDS}
use Rattle.edf_fragment.specs.Fragment.{DataRecord}
use Rattle.edf_runs.specs.Inside.ToCome.{IsPlaced, StartAt}
use Rattle.edf_runs.proofs.MeasuredPlaces.{MeasuredTo}
use Rattle.edf_runs.proofs.filling.measure_of.Given as goal

abbrev pub invariant-places : goal.invariant-places
invariant-places l = IsPlaced l.fn.places → l.fn.count ≤ MOST_RECORDS → (next : List DataRecord) →
    StartAt l.fn.places.later.now next → MeasuredTo l.fn.places next l.places l.measure
    l.counter
