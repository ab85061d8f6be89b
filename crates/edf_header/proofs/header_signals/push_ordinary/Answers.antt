use Rattle.std.proofs.Common.{arith, ◌++◌}
use Rattle.std.specs.List.{flat_map}
use Rattle.edf_header.proofs.RowSteps.{one-at}
use Rattle.edf_header.proofs.Sorted.{skip-labelled, copy-ordinary, ended}
use Rattle.edf_header.proofs.header_signals.push_ordinary.Goals as goal

pub loop-i-preserved-then-is_labelled : goal.loop-i-preserved-then-is_labelled
loop-i-preserved-then-is_labelled c =
    let at = one-at c.args.signals.now c.count-n.result c.loop-i.i c.row-row.result (omega arith)
    c.count-n.ensures.value c.row-row.ensures in
    skip-labelled (λ l. c.args.out.now.items ++ flat_map (λ s. s) l)
    c.args.signals.now c.loop-i.i c.row-row.result c.is_labelled.result
    c.loop-i.out.items at.0 at.1
    c.is_labelled.ensures.value c.if-is_labelled.true c.loop-i.invariant

pub loop-i-preserved : goal.loop-i-preserved
loop-i-preserved c =
    let at = one-at c.args.signals.now c.count-n.result c.loop-i.i c.row-row.result (omega arith)
    c.count-n.ensures.value c.row-row.ensures in
    copy-ordinary c.args.signals.now c.args.out.now.items c.loop-i.out.items
    c.extend_from_slice.new.self.items c.loop-i.i c.row-row.result c.is_labelled.result
    at.0 at.1
    c.is_labelled.ensures.value c.if-is_labelled.false c.loop-i.invariant
    c.in_ok-extend_from_slice.ensures.items

pub returns : goal.returns
returns c =
    ended (λ l. c.args.out.now.items ++ flat_map (λ s. s) l) c.args.signals.now
    c.loop-i.i c.loop-i.out.items
    (omega (arith, c.count-n.ensures.value)) c.loop-i.invariant
