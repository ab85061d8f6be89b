use Rattle.edf_runs.proofs.SameRead.{same-is-read}
use Rattle.edf_runs.proofs.filled_laws.the_same_is_read_twice.Goals as goal

pub returns : goal.returns
returns c = same-is-read
