use Rattle.edf_fragment.proofs.OneFragment.{spelled-no-fault}
use Rattle.edf_fragment.proofs.laws.no_fault_where_spelled.Goals as goal

pub returns : goal.returns
returns c = spelled-no-fault
