use Rattle.edf_field.proofs.Cited.{patient-no-fault, one-patient-fault}
use Rattle.edf_field.proofs.laws.one_patient_fault.Goals as goal

pub returns : goal.returns
returns c = record { none = patient-no-fault; one = one-patient-fault }
