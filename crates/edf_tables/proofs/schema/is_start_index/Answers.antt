use Rattle.std.specs.Fmt.{digits}
use Rattle.edf_tables.proofs.schema.is_start_index.Goals as goal

pub returns : goal.returns
unfolding digits
returns c = c.is_index.ensures
