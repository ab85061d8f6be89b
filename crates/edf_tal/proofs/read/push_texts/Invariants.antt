use Rattle.std.proofs.Common.{length}
use Rattle.edf_tal.proofs.Lists.{HasPushed}
use Rattle.edf_tal.proofs.read.push_texts.Given as goal

abbrev pub invariant-loop-text : goal.invariant-loop-text
invariant-loop-text l = HasPushed l.onset l.duration l.texts l.rest l.fn.list.items l.list.items

abbrev pub decreases-loop-text : goal.decreases-loop-text
decreases-loop-text l = length l.rest
