use Rattle.std.proofs.Common.{arith}
use Rattle.edf_time.proofs.Short.{writes, starts, ends}
use Rattle.edf_time.proofs.shortest.push_fraction.Goals as goal

pub loop-part-init : goal.loop-part-init
loop-part-init c = starts c.args.part c.args.text.now.items c.push.new.self.items
    (omega (arith, c.if-part-eq0.false)) c.requires c.in_ok-push.ensures.items

pub nonzero_div-part : goal.nonzero_div-part
nonzero_div-part c =
    (writes c.loop-part.unit c.loop-part.part c.loop-part.text.items _ c.loop-part-test.true
    c.loop-part.invariant).some

pub overflow_cast-part : goal.overflow_cast-part
overflow_cast-part c =
    let w = writes c.loop-part.unit c.loop-part.part c.loop-part.text.items _ c.loop-part-test.true
    c.loop-part.invariant in
    omega (arith, w.digit)

pub overflow_add-part : goal.overflow_add-part
overflow_add-part c =
    let w = writes c.loop-part.unit c.loop-part.part c.loop-part.text.items _ c.loop-part-test.true
    c.loop-part.invariant in
    omega (arith, w.digit)

pub nonzero_rem-part : goal.nonzero_rem-part
nonzero_rem-part c =
    (writes c.loop-part.unit c.loop-part.part c.loop-part.text.items _ c.loop-part-test.true
    c.loop-part.invariant).some

pub loop-part-smaller : goal.loop-part-smaller
loop-part-smaller c =
    let w = writes c.loop-part.unit c.loop-part.part c.loop-part.text.items _ c.loop-part-test.true
    c.loop-part.invariant in
    omega (arith, w.some)

pub loop-part-preserved : goal.loop-part-preserved
loop-part-preserved c =
    let w = writes c.loop-part.unit c.loop-part.part c.loop-part.text.items _ c.loop-part-test.true
    c.loop-part.invariant in
    rw c.in_ok-push-2.ensures.items w.next

pub returns : goal.returns
returns c = ends c.loop-part.unit c.loop-part.part c.loop-part.text.items _ (omega arith)
    c.loop-part.invariant
