use Rattle.edf_runs.proofs.Rejoined.{runs-rejoin}
use Rattle.edf_runs.proofs.laws.nothing_is_lost_by_splitting.Goals as goal

pub returns : goal.returns
returns c = runs-rejoin
