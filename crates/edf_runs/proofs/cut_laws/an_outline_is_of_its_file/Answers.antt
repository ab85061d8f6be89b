use Rattle.edf_runs.proofs.CutLaws.{is-of-its-file}
use Rattle.edf_runs.proofs.cut_laws.an_outline_is_of_its_file.Goals as goal

pub returns : goal.returns
returns c = is-of-its-file
