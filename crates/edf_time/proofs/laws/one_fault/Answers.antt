use Rattle.edf_time.proofs.OneValue.{no-fault, one-fault}
use Rattle.edf_time.proofs.laws.one_fault.Goals as goal

pub returns : goal.returns
returns c = record { none = no-fault; one = one-fault }
