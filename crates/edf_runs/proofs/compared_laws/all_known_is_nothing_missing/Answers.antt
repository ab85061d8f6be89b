use Rattle.edf_runs.proofs.Words.{nothing-missing}
use Rattle.edf_runs.proofs.compared_laws.all_known_is_nothing_missing.Goals as goal

pub returns : goal.returns
returns c = nothing-missing
