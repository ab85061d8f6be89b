use Rattle.edf_header.proofs.KeyOnce.{one-key-fault}
use Rattle.edf_header.proofs.laws.one_key_fault.Goals as goal

pub returns : goal.returns
returns c = one-key-fault
