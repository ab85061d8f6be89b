use Rattle.edf_holdings.proofs.ConflictFree.{recut_law}
use Rattle.edf_holdings.proofs.Recut.{free_of_same}
use Rattle.edf_holdings.proofs.laws.recut.Goals as goal

pub returns-clause-same : goal.returns-clause-same
returns-clause-same c = recut_law

pub returns-clause-conflict_free : goal.returns-clause-conflict_free
returns-clause-conflict_free c = free_of_same
