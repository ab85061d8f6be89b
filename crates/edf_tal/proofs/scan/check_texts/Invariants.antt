use Rattle.std.proofs.Common.{length}
use Rattle.edf_tal.proofs.Surveys.{HasChecked}
use Rattle.edf_tal.proofs.scan.check_texts.Given as goal

abbrev pub invariant-loop-text : goal.invariant-loop-text
invariant-loop-text l = HasChecked l.texts l.rest l.count

abbrev pub decreases-loop-text : goal.decreases-loop-text
decreases-loop-text l = length l.rest
