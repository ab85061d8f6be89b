use Rattle.std.proofs.Common.{◌≡◌, length}
use Rattle.edf_mend.specs.Signal.{has_word}
use Rattle.edf_mend.proofs.signal.has_word.Given as goal

abbrev pub invariant-loop-left : goal.invariant-loop-left
invariant-loop-left l = has_word l.left ≡ has_word l.text

abbrev pub decreases-loop-left : goal.decreases-loop-left
decreases-loop-left l = length l.left
