use Rattle.std.proofs.Common.{arith, refl}
use Rattle.std.proofs.lemmas.Bool.{iff_false}
use Rattle.edf_header.specs.Signal.{Passes}
use Rattle.edf_header.proofs.RowSteps.{good-more, bad-here, all-good, one-at}
use Rattle.edf_header.proofs.header_signals.bad_signal.Goals as goal

pub returns-then-not-passes : goal.returns-then-not-passes
returns-then-not-passes c =
    let at = one-at c.args.signals.now c.count-n.result c.loop-i.i c.row.result c.loop-i-test.true
    c.count-n.ensures.value c.row.ensures in (
      c.loop-i.i,
      bad-here (Passes c.args.check) c.args.signals.now c.loop-i.i c.row.result at.0 at.1
          c.loop-i.invariant (iff_false c.passes.ensures c.if-not-passes.true),
      refl,
    )

pub loop-i-preserved : goal.loop-i-preserved
loop-i-preserved c =
    let at = one-at c.args.signals.now c.count-n.result c.loop-i.i c.row.result c.loop-i-test.true
    c.count-n.ensures.value c.row.ensures in
    good-more (Passes c.args.check) c.args.signals.now c.loop-i.i
    c.row.result at.0 at.1 c.loop-i.invariant (c.passes.ensures.0 c.if-not-passes.false)

pub returns : goal.returns
returns c =
    all-good (Passes c.args.check) c.args.signals.now c.loop-i.i
    (omega (arith, c.count-n.ensures.value, c.loop-i-test.false))
    c.loop-i.invariant
