use Rattle.std.proofs.Common.{length}
use Rattle.edf_mend.proofs.Blocks.{ReadSoFar}
use Rattle.edf_mend.proofs.block.push_block.Given as goal

abbrev pub invariant-loop-text : goal.invariant-loop-text
invariant-loop-text l = ReadSoFar l.nth l.at l.initial.rest l.rest l.initial.out.items l.out.items
    l.are_times l.initial.changes.items l.changes.items

abbrev pub decreases-loop-text : goal.decreases-loop-text
decreases-loop-text l = length l.rest
