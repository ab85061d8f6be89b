use Rattle.edf_runs.proofs.FilledWholes.{parts-are-whole}
use Rattle.edf_runs.proofs.filled_laws.parts_are_whole.Goals as goal

pub returns : goal.returns
returns c = parts-are-whole
