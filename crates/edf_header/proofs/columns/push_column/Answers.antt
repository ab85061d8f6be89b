use Rattle.std.proofs.Common.{sym}
use Rattle.std.proofs.lemmas.List.{append-nil}
use Rattle.edf_header.proofs.RowSteps.{column-step, column-end}
use Rattle.edf_header.proofs.columns.push_column.Goals as goal

pub loop-i-init : goal.loop-i-init
loop-i-init c = sym (append-nil c.args.out.now.items)

pub loop-i-preserved : goal.loop-i-preserved
loop-i-preserved c =
    column-step c.args.rows.now c.row_in-row.result.now c.args.at c.args.width c.loop-i.i
    c.args.out.now.items c.loop-i.out.items c.extend_from_slice.new.self.items c.loop-i-test.true
    c.row_in-row.ensures c.loop-i.invariant c.in_ok-extend_from_slice.ensures.items

pub returns : goal.returns
returns c =
    column-end c.args.rows.now c.args.last.now c.args.at c.args.width c.loop-i.i
    c.args.out.now.items c.loop-i.out.items c.extend_from_slice-2.new.self.items
    c.loop-i-test.false c.loop-i.invariant c.in_ok-extend_from_slice-2.ensures.items
