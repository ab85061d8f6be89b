use Rattle.std.proofs.Common.{◌+◌, ◌-◌, ◌*◌, ◌∙◌, arith, drop, length-take, length-drop}
use Rattle.edf_header.proofs.RowSteps.{row-one}
use Rattle.edf_header.proofs.columns.row_in.Goals as goal

pub unwrap-requires : goal.unwrap-requires
unwrap-requires c = c.as_array.ensures.variant.1 (omega (
  arith,
  length-take (256 * c.args.i + 256 - 256 * c.args.i) (drop (256 * c.args.i) c.args.rows.now),
  length-drop (256 * c.args.i) c.args.rows.now,
))

pub returns : goal.returns
returns c =
    let chunk = rw c.unwrap.ensures at c.as_array.ensures.cases in
    chunk.same ∙ (row-one c.args.rows.now c.args.i c.requires).1
