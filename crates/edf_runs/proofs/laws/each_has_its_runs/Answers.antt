use Rattle.edf_runs.proofs.Parts.{some-runs, one-runs}
use Rattle.edf_runs.proofs.laws.each_has_its_runs.Goals as goal

pub returns-clause-some : goal.returns-clause-some
returns-clause-some c = some-runs

pub returns-clause-one : goal.returns-clause-one
returns-clause-one c = one-runs
