use Rattle.edf_header.proofs.FixedLaws.{one-fixed}
use Rattle.edf_header.proofs.laws.one_fixed.Goals as goal

pub returns : goal.returns
returns c = one-fixed
