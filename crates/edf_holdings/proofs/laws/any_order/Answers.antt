use Rattle.edf_holdings.proofs.ConflictFree.{any_order_law}
use Rattle.edf_holdings.proofs.Recut.{reordered, alone_is_free}
use Rattle.edf_holdings.proofs.laws.any_order.Goals as goal

pub returns-clause-accepted : goal.returns-clause-accepted
returns-clause-accepted c = any_order_law

pub returns-clause-reordered : goal.returns-clause-reordered
returns-clause-reordered c = reordered

pub returns-clause-alone : goal.returns-clause-alone
returns-clause-alone c = alone_is_free
