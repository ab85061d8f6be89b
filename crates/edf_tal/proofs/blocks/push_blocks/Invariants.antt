use Rattle.edf_tal.proofs.Cuts.{HasPushedBlocks}
use Rattle.edf_tal.proofs.blocks.push_blocks.Given as goal

abbrev pub invariant-loop-size : goal.invariant-loop-size
invariant-loop-size l = HasPushedBlocks l.file_start l.sizes l.block l.size-index l.rest
    l.fn.list.items l.list.items
