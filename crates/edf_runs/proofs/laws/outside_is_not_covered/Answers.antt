use Rattle.edf_runs.proofs.Tallies.{outside-is-not-covered}
use Rattle.edf_runs.proofs.laws.outside_is_not_covered.Goals as goal

pub returns : goal.returns
returns c = outside-is-not-covered
