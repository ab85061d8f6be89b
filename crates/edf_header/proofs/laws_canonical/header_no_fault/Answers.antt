use Rattle.edf_header.proofs.Cited.{header-no-fault}
use Rattle.edf_header.proofs.laws_canonical.header_no_fault.Goals as goal

pub returns : goal.returns
returns c = λ bytes rest header fault is. header-no-fault bytes header rest fault is
