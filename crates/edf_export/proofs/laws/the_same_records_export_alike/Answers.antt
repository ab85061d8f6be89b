use Rattle.edf_export.proofs.Again.{export_alike}
use Rattle.edf_export.proofs.laws.the_same_records_export_alike.Goals as goal

pub returns : goal.returns
returns c = export_alike
