use Rattle.edf_mend.proofs.Blocks.{fill-next}
use Rattle.edf_mend.proofs.block.front_len.Goals as goal

pub returns-clause-fill : goal.returns-clause-fill
returns-clause-fill c = fill-next c.args.block.now c.loop-end.end c.loop-end.invariant.1
