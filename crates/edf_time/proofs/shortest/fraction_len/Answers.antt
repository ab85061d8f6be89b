use Rattle.std.proofs.Common.{arith}
use Rattle.edf_time.specs.Decimal.{fraction_text}
use Rattle.edf_time.proofs.Short.{writes, counting-starts, counts, counting-ends, counted-le}
use Rattle.edf_time.proofs.Short.{length-fraction_text}
use Rattle.edf_time.proofs.shortest.fraction_len.Goals as goal

pub loop-part-init : goal.loop-part-init
loop-part-init c = counting-starts c.args.part (omega arith) c.requires

pub overflow_add-len : goal.overflow_add-len
overflow_add-len c = omega (
  arith,
  counted-le _ _ _ _ c.loop-part.invariant,
  length-fraction_text c.args.part,
)

pub nonzero_rem-part : goal.nonzero_rem-part
nonzero_rem-part c = (writes _ _ _ _ c.loop-part-test.true c.loop-part.invariant.writing).some

pub loop-part-smaller : goal.loop-part-smaller
loop-part-smaller c = let w = writes c.loop-part.unit c.loop-part.part c.loop-part.invariant.written
    (fraction_text c.args.part) c.loop-part-test.true c.loop-part.invariant.writing in
    omega (arith, w.some)

pub loop-part-preserved : goal.loop-part-preserved
loop-part-preserved c = counts _ _ _ _ c.loop-part-test.true c.loop-part.invariant

pub returns : goal.returns
returns c =
    let e = counting-ends c.loop-part.unit c.loop-part.part c.loop-part.len
    (fraction_text c.args.part) (omega arith) c.loop-part.invariant in
    record { value = e; bound = omega (arith, length-fraction_text c.args.part) }
