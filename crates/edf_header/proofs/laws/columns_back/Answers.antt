use Rattle.edf_header.proofs.Strides.{signals-back}
use Rattle.edf_header.proofs.laws.columns_back.Goals as goal

pub returns : goal.returns
returns c = signals-back
