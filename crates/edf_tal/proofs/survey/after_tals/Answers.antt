use Rattle.std.proofs.Common.{arith}
use Rattle.edf_tal.proofs.Totals.{after-none, after-more, front-shorter}
use Rattle.edf_tal.proofs.survey.after_tals.Goals as goal

pub loop-tal-init : goal.loop-tal-init
loop-tal-init c = after-none c.args.bytes.now

pub loop-tal-preserved : goal.loop-tal-preserved
loop-tal-preserved c =
    after-more c.args.bytes.now c.loop-tal.rest.now c.in-Some.tal.texts.now c.in-Some.tal.rest.now
    c.in-Some.ensures.0 c.loop-tal.invariant c.in-Some.ensures.1

pub loop-tal-smaller : goal.loop-tal-smaller
loop-tal-smaller c =
    omega (
      arith,
      front-shorter c.loop-tal.rest.now c.in-Some.tal.texts.now c.in-Some.tal.rest.now
          c.in-Some.ensures.0 c.in-Some.ensures.1,
    )
