use Rattle.edf_tal.proofs.Cuts.{cut-joined}
use Rattle.edf_tal.proofs.laws.cut_again.Goals as goal

pub returns : goal.returns
returns c = cut-joined
