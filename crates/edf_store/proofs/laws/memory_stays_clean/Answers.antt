use Rattle.std.proofs.Common.{refl}
use Rattle.sqlite_trees.specs.View.{doubt}
use Rattle.edf_store.proofs.laws.memory_stays_clean.Goals as goal

pub returns : goal.returns
unfolding doubt
returns c conn = refl
