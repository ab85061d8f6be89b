use Rattle.std.proofs.Common.{◌≡◌, ◌≤◌, length, take}
use Rattle.edf_serve.specs.Lines.{whole_lines}
use Rattle.edf_serve.proofs.text.whole_lines.Given as goal

abbrev pub invariant-loop-end : goal.invariant-loop-end
invariant-loop-end l = (l.end ≤ length l.bytes)
    × (whole_lines (take l.end l.bytes) ≡ whole_lines l.bytes)

abbrev pub decreases-loop-end : goal.decreases-loop-end
decreases-loop-end l = l.end
