use Rattle.edf_rows.proofs.DecidedRows.{committed_or_foreign}
use Rattle.edf_rows.proofs.laws.committed_or_foreign.Goals as goal

pub returns : goal.returns
returns c = committed_or_foreign
