use Rattle.std.proofs.Common.{arith, length, ◌/◌}
use Rattle.edf_header.specs.Signal.{HasSamples, rows_of, samples_in_all}
use Rattle.edf_header.proofs.RowSteps.{length-rows, row-one}
use Rattle.edf_header.proofs.Sorted.{skip-labelled, add-ordinary, ended, member-meets}
use Rattle.edf_header.proofs.identity_checks.ordinary_samples.Goals as goal

pub loop-i-preserved-then-is_labelled : goal.loop-i-preserved-then-is_labelled
loop-i-preserved-then-is_labelled c =
    let at = row-one c.args.rows.now c.loop-i.i c.loop-i-test.true in (
      skip-labelled samples_in_all (rows_of c.args.rows.now) c.loop-i.i _ c.is_labelled.result
          c.loop-i.total at.0 c.row_in-row.ensures c.is_labelled.ensures.value c.if-is_labelled.true
          c.loop-i.invariant.0,
      omega arith,
    )

pub loop-i-preserved-in_default : goal.loop-i-preserved-in_default
loop-i-preserved-in_default c =
    let at = row-one c.args.rows.now c.loop-i.i c.loop-i-test.true in
    absurd (c.in_default.ensures (member-meets HasSamples (rows_of c.args.rows.now) c.loop-i.i _
    at.0 c.row_in-row.ensures c.requires.each).whole)

pub loop-i-preserved : goal.loop-i-preserved
loop-i-preserved c =
    let at = row-one c.args.rows.now c.loop-i.i c.loop-i-test.true in (
      add-ordinary (rows_of c.args.rows.now) c.loop-i.i _ c.in-Some.n c.loop-i.total
          c.is_labelled.result at.0 c.row_in-row.ensures c.is_labelled.ensures.value
          c.if-is_labelled.false
          c.in-Some.ensures.1 c.loop-i.invariant.0,
      omega (arith, c.in-Some.ensures.2),
    )

pub returns-clause-value : goal.returns-clause-value
returns-clause-value c =
    ended samples_in_all (rows_of c.args.rows.now) c.loop-i.i c.loop-i.total
    (omega (arith, length-rows (length c.args.rows.now / 256) c.args.rows.now))
    c.loop-i.invariant.0
