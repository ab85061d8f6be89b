use Rattle.std.proofs.Common.{arith}
use Rattle.edfmend_command.proofs.LineByLine.{line-more}
use Rattle.edfmend_command.proofs.lines.changes_text.Goals as goal

pub loop-change-preserved : goal.loop-change-preserved
loop-change-preserved c = (
  line-more c.loop-change.change-index c.loop-change.text.items c.push_line.new.text.items
      c.as_slice.result.now c.loop-change.invariant.0 c.in_ok-push_line.ensures,
  omega (arith, c.loop-change-test.true),
)
