use Rattle.std.proofs.Common.{◌≤◌, length}
use Rattle.edfmend_command.specs.Run.{AreLines}
use Rattle.edfmend_command.proofs.lines.changes_text.Given as goal

abbrev pub invariant-loop-change : goal.invariant-loop-change
invariant-loop-change l =
    AreLines l.change-index l.text.items × (l.change-index ≤ length l.changes)
