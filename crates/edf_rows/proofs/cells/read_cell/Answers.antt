use Rattle.std.proofs.Common.{rules}
use Rattle.edf_rows.proofs.RowCells.{refused-no_block, fault-of}
use Rattle.edf_rows.proofs.cells.read_cell.Goals as goal

pub returns-else-eq : goal.returns-else-eq
returns-else-eq c = refused-no_block c.args.block.now c.in-Err.fault
    (fault-of c.args.block.now c.in-Err.fault (search rules) (search rules))
