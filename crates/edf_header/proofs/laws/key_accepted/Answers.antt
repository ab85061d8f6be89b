use Rattle.edf_header.proofs.Faults.{key-clean}
use Rattle.edf_header.proofs.laws.key_accepted.Goals as goal

pub returns : goal.returns
returns c = key-clean
