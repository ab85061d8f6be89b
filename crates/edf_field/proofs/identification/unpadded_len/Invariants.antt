use Rattle.std.proofs.Common.{◌≡◌, ℕ, ◌<◌, true, not, eqb, get_or}
use Rattle.edf_field.proofs.identification.unpadded_len.Given as goal

abbrev pub invariant-loop-i : goal.invariant-loop-i
invariant-loop-i l = (k : ℕ) → k < l.i → not (eqb (get_or l.text k 0) 32) ≡ true
