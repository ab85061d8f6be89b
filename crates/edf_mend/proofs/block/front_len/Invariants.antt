use Rattle.std.proofs.Common.{◌≡◌, ◌⊎◌, ◌≤◌, length, drop, All}
use Rattle.edf_mend.proofs.block.front_len.Given as goal

abbrev pub invariant-loop-end : goal.invariant-loop-end
invariant-loop-end l = (l.end ≤ length l.block) × All (λ b. (b ≡ 0) ⊎ (b ≡ 32)) (drop l.end l.block)

abbrev pub decreases-loop-end : goal.decreases-loop-end
decreases-loop-end l = l.end
