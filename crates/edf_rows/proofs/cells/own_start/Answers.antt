use Rattle.std.proofs.Common.{rules}
use Rattle.edf_rows.proofs.RowCells.{other-block, no_block-own}
use Rattle.edf_rows.proofs.cells.own_start.Goals as goal

pub returns-in_default : goal.returns-in_default
returns-in_default c = no_block-own c.args.block.now (search rules)

pub returns : goal.returns
returns c = other-block c.args.block.now c.in-Some.start c.in-Some.notes.items (search rules)
    (search rules)
