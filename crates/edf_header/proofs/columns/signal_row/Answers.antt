use Rattle.std.proofs.Common.{◌∙◌}
use borrow.Rule.Slice.PartMut.{same_len_mid}
use Rattle.edf_header.proofs.RowSteps.{row-step, row-end}
use Rattle.edf_header.proofs.columns.signal_row.Goals as goal

pub loop-at-preserved : goal.loop-at-preserved
loop-at-preserved c = (
  same_len_mid _ _ c.loop-at.row c.copy_from_slice.new.self c.copy_from_slice.auto.self
      ∙ c.loop-at.invariant.0,
  row-step c.args.bytes.now c.loop-at.row c.copy_from_slice.new.self c.args.n c.args.i
      c.loop-at.at-index _ c.requires.size c.requires.inside c.loop-at-test.true
      c.loop-at.invariant.0 c.loop-at.invariant.1
      (c.copy_from_slice.ensures.after ∙ c.column.ensures),
)

pub returns : goal.returns
returns c = row-end c.args.bytes.now c.loop-at.row c.args.n c.args.i c.loop-at.at-index
    c.requires.size c.requires.inside c.loop-at-test.false c.loop-at.invariant.0
    c.loop-at.invariant.1
