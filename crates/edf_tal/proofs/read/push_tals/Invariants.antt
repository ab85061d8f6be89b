use Rattle.std.proofs.Common.{length}
use Rattle.edf_tal.proofs.Lists.{HasPushedTals}
use Rattle.edf_tal.proofs.read.push_tals.Given as goal

abbrev pub invariant-loop-tal : goal.invariant-loop-tal
invariant-loop-tal l = HasPushedTals l.file_start l.tals l.rest l.fn.list.items l.list.items

abbrev pub decreases-loop-tal : goal.decreases-loop-tal
decreases-loop-tal l = length l.rest
