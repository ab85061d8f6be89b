use Rattle.edf_tal.proofs.OneBlock.{one-lists}
use Rattle.edf_tal.proofs.laws.one_block.Goals as goal

pub returns : goal.returns
returns c = one-lists
