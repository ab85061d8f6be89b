use Rattle.std.proofs.Common.{◌≡◌, length, take}
use Rattle.edf_tal.proofs.write.same_notes.Given as goal

abbrev pub invariant-loop-i : goal.invariant-loop-i
invariant-loop-i l = (length l.a ≡ length l.b) × (take l.i l.a ≡ take l.i l.b)
