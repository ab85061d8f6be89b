use Rattle.edf_export.proofs.Again.{accepted_again}
use Rattle.edf_export.proofs.laws.an_export_is_accepted_again.Goals as goal

pub returns : goal.returns
returns c = accepted_again
