-- A typed row of `record` has three cells: its start, its samples and its block.
use Rattle.std.specs.Prelude.{[], ◌∷◌}
use Rattle.sqlite.specs.declared.types.Value.TheVariants.{Int, Blob}
use Rattle.sqlite.specs.Order.{Row}
use Rattle.edf_tables.specs.Columns.{the_start, the_samples, the_block}
use Rattle.edf_tables.specs.declared.row.RecordRow.{RecordRow}

abbrev pub cells_of : RecordRow → Row
cells_of r = Int r.start ∷ Blob r.samples.items ∷ Blob r.block.items ∷ []

abbrev pub first_three : Row → Row
first_three row = the_start row ∷ the_samples row ∷ the_block row ∷ []
