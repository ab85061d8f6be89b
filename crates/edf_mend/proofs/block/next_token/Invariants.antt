use Rattle.std.proofs.Common.{take}
use Rattle.edf_tal.specs.Tal.{IsText}
use Rattle.edf_mend.proofs.block.next_token.Given as goal

abbrev pub invariant-loop-i : goal.invariant-loop-i
invariant-loop-i l = IsText (take l.i l.bytes)
