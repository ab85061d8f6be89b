use Rattle.std.proofs.Common.{arith}
use Rattle.edf_field.proofs.Numbers.{number-more, number-fits, pow-fits}
use Rattle.edf_field.proofs.number.read_digits.Goals as goal

pub overflow_mul-number : goal.overflow_mul-number
overflow_mul-number c = omega (
  arith,
  number-fits c.loop-d.number c.loop-d.d-index c.loop-d.invariant.1
      (omega (arith, c.requires.short)),
)

pub loop-d-preserved : goal.loop-d-preserved
loop-d-preserved c = number-more c.args.text.now c.loop-d.d-index c.loop-d.number c.from.result
    c.loop-d-test.true c.requires.digits c.from.ensures c.loop-d.invariant.0 c.loop-d.invariant.1

pub returns-clause-small : goal.returns-clause-small
returns-clause-small c = omega (
  arith,
  c.loop-d.invariant.1,
  pow-fits c.loop-d.d-index (omega (arith, c.requires.short)),
)
