use Rattle.edf_header.proofs.Cited.{key-back}
use Rattle.edf_header.proofs.laws.key_back.Goals as goal

pub returns : goal.returns
returns c = key-back
