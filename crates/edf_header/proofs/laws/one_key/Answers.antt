use Rattle.edf_header.proofs.Cited.{one-key}
use Rattle.edf_header.proofs.laws.one_key.Goals as goal

pub returns : goal.returns
returns c = one-key
