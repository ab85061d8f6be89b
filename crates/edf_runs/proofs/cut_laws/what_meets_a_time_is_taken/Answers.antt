use Rattle.edf_runs.proofs.CutLaws.{takes-what-meets}
use Rattle.edf_runs.proofs.cut_laws.what_meets_a_time_is_taken.Goals as goal

pub returns : goal.returns
returns c = takes-what-meets
