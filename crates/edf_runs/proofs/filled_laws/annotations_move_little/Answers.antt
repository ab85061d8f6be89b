use Rattle.edf_runs.proofs.FilledWholes.{annotations-move-little}
use Rattle.edf_runs.proofs.filled_laws.annotations_move_little.Goals as goal

pub returns : goal.returns
returns c = annotations-move-little
