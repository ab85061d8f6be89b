use Rattle.std.proofs.Common.{arith}
use Rattle.edf_runs.proofs.FilledPlaces.{bounds, few-places}
use Rattle.edf_runs.proofs.places.place_of.Goals as goal

pub returns-clause-few : goal.returns-clause-few
returns-clause-few c =
    let n = few-places c.args.unit c.saturating_sub.result c.requires.some in
    omega (
      arith,
      n,
      c.saturating_sub.ensures,
      c.nanos.ensures.bound,
      c.nanos.ensures.value,
      c.nanos-2.ensures.value,
    )

pub returns-clause-fits : goal.returns-clause-fits
returns-clause-fits c =
    let b = bounds c.args.unit c.saturating_sub.result c.requires.some in
    omega (
      arith,
      b.0,
      c.requires.few,
      c.saturating_sub.ensures,
      c.nanos.ensures.bound,
      c.nanos-2.ensures.bound,
      c.nanos.ensures.value,
      c.nanos-2.ensures.value,
    )
