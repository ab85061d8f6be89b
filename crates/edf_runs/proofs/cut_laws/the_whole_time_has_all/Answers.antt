use Rattle.edf_runs.proofs.CutLaws.{has-all}
use Rattle.edf_runs.proofs.cut_laws.the_whole_time_has_all.Goals as goal

pub returns : goal.returns
returns c = has-all
