use Rattle.edf_tal.proofs.Unique.{one-tal}
use Rattle.edf_tal.proofs.laws.one_tal.Goals as goal

pub returns : goal.returns
returns c = one-tal
