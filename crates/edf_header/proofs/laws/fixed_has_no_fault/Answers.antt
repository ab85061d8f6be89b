use Rattle.edf_header.proofs.Cited.{fixed-clean}
use Rattle.edf_header.proofs.laws.fixed_has_no_fault.Goals as goal

pub returns : goal.returns
returns c = fixed-clean
