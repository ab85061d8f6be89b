use Rattle.std.proofs.Common.{arith}
use Rattle.edf_time.proofs.Short.{digit-count-step, digit-count-end, digit-count-le}
use Rattle.edf_time.proofs.shortest.whole_len.Goals as goal

pub overflow_add-digits : goal.overflow_add-digits
overflow_add-digits c = omega (
  arith,
  digit-count-le c.loop-number.number c.loop-number.digits c.args.number (omega arith)
      (omega arith) c.loop-number.invariant,
)

pub loop-number-preserved : goal.loop-number-preserved
loop-number-preserved c = digit-count-step c.loop-number.number c.loop-number.digits c.args.number
    c.loop-number-test.true (omega arith) c.loop-number.invariant

pub returns-clause-value : goal.returns-clause-value
returns-clause-value c = digit-count-end c.loop-number.number c.loop-number.digits c.args.number
    c.loop-number-test.false c.loop-number.invariant

pub returns-clause-bound : goal.returns-clause-bound
returns-clause-bound c = digit-count-le c.loop-number.number c.loop-number.digits c.args.number
    (omega arith) (omega arith) c.loop-number.invariant
