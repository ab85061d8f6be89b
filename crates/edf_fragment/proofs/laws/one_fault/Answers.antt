use Rattle.edf_fragment.proofs.OneFragment.{one-first-fault}
use Rattle.edf_fragment.proofs.laws.one_fault.Goals as goal

pub returns : goal.returns
returns c = one-first-fault
