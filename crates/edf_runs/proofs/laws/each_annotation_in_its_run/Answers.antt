use Rattle.edf_runs.proofs.InItsRun.{each-in-its-run}
use Rattle.edf_runs.proofs.laws.each_annotation_in_its_run.Goals as goal

pub returns : goal.returns
returns c = each-in-its-run
