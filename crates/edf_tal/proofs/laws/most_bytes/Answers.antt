use Rattle.edf_tal.proofs.BlockLength.{block-length}
use Rattle.edf_tal.proofs.laws.most_bytes.Goals as goal

pub returns : goal.returns
returns c = block-length
