use Rattle.edf_runs.proofs.CutLaws.{cuts-are-taken}
use Rattle.edf_runs.proofs.cut_laws.a_store_takes_cut_files.Goals as goal

pub returns : goal.returns
returns c = cuts-are-taken
