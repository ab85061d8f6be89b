use Rattle.edf_runs.proofs.StretchesCut.{stretches-are-cut}
use Rattle.edf_runs.proofs.compared_laws.stretches_are_cut.Goals as goal

pub returns : goal.returns
returns c = stretches-are-cut
