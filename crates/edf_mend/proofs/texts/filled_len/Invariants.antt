use Rattle.std.proofs.Common.{◌≡◌, ◌+◌, ◌≤◌, ◌==◌, ◌||◌, length, take}
use Rattle.std.specs.List.{suffix_len}
use Rattle.edf_mend.proofs.texts.filled_len.Given as goal

abbrev pub invariant-loop-end : goal.invariant-loop-end
invariant-loop-end l = let fill = suffix_len (λ b. (b == 0) || (b == 32)) in
    (l.end ≤ length l.text) × (l.end + fill l.text ≡ length l.text + fill (take l.end l.text))

abbrev pub decreases-loop-end : goal.decreases-loop-end
decreases-loop-end l = l.end
