use Rattle.edf_rows.proofs.Rows.{not-foreign}
use Rattle.edf_rows.proofs.laws.committed_is_not_foreign.Goals as goal

pub returns : goal.returns
returns c = not-foreign
