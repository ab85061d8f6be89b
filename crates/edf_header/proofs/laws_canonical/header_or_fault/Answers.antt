use Rattle.edf_header.proofs.Cited.{header-or-fault}
use Rattle.edf_header.proofs.laws_canonical.header_or_fault.Goals as goal

pub returns : goal.returns
returns c = header-or-fault
