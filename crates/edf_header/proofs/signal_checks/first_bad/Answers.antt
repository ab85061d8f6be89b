use Rattle.std.proofs.Common.{arith, length, ◌/◌}
use Rattle.std.proofs.lemmas.Bool.{iff_false}
use Rattle.edf_header.specs.Signal.{Passes, rows_of}
use Rattle.edf_header.proofs.RowSteps.{good-more, bad-here, all-good, length-rows, row-one}
use Rattle.edf_header.proofs.signal_checks.first_bad.Goals as goal

pub returns-then-not-passes : goal.returns-then-not-passes
returns-then-not-passes c =
    let at = row-one c.args.rows.now c.loop-i.i c.loop-i-test.true in
    bad-here (Passes c.args.check) (rows_of c.args.rows.now) c.loop-i.i _ at.0 c.row_in.ensures
    c.loop-i.invariant (iff_false c.passes.ensures c.if-not-passes.true)

pub loop-i-preserved : goal.loop-i-preserved
loop-i-preserved c =
    let at = row-one c.args.rows.now c.loop-i.i c.loop-i-test.true in
    good-more (Passes c.args.check) (rows_of c.args.rows.now) c.loop-i.i _ at.0 c.row_in.ensures
    c.loop-i.invariant (c.passes.ensures.0 c.if-not-passes.false)

pub returns : goal.returns
returns c =
    all-good (Passes c.args.check) (rows_of c.args.rows.now) c.loop-i.i
    (omega (arith, length-rows (length c.args.rows.now / 256) c.args.rows.now))
    c.loop-i.invariant
