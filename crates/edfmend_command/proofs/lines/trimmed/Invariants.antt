use Rattle.std.proofs.Common.{◌≤◌, length}
use Rattle.edfmend_command.proofs.lines.trimmed.Given as goal

abbrev pub invariant-loop-end : goal.invariant-loop-end
invariant-loop-end l = l.end ≤ length l.field

abbrev pub decreases-loop-end : goal.decreases-loop-end
decreases-loop-end l = l.end
