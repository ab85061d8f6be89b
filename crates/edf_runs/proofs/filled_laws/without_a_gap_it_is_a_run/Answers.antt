use Rattle.edf_runs.proofs.OneRun.{one-run}
use Rattle.edf_runs.proofs.filled_laws.without_a_gap_it_is_a_run.Goals as goal

pub returns : goal.returns
returns c = one-run
