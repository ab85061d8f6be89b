use Rattle.edf_header.proofs.FixedLaws.{one-fault}
use Rattle.edf_header.proofs.laws.one_fixed_fault.Goals as goal

pub returns : goal.returns
returns c = one-fault
