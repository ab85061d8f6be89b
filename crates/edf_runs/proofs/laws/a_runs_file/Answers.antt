use Rattle.edf_runs.proofs.RunFiles.{some-run-file, one-run-file, run-file-read}
use Rattle.edf_runs.proofs.laws.a_runs_file.Goals as goal

pub returns-clause-some : goal.returns-clause-some
returns-clause-some c = some-run-file

pub returns-clause-one : goal.returns-clause-one
returns-clause-one c = one-run-file

pub returns-clause-read : goal.returns-clause-read
returns-clause-read c = run-file-read
