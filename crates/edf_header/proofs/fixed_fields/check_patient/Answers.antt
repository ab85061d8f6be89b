use Rattle.edf_header.proofs.FixedRows.{patient-in}
use Rattle.edf_header.proofs.fixed_fields.check_patient.Goals as goal

pub returns-in-None : goal.returns-in-None
returns-in-None c = patient-in c.args.bytes.now c.requires c.in-None.ensures
