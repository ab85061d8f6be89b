use Rattle.edf_field.proofs.Cited.{recording-no-fault, one-recording-fault}
use Rattle.edf_field.proofs.laws.one_recording_fault.Goals as goal

pub returns : goal.returns
returns c = record { none = recording-no-fault; one = one-recording-fault }
