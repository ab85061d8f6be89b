use Rattle.edf_header.proofs.Cited.{one-header-fault}
use Rattle.edf_header.proofs.laws_canonical.one_header_fault.Goals as goal

pub returns : goal.returns
returns c = one-header-fault
