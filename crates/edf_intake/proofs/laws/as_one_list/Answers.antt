use Rattle.edf_intake.proofs.Batches.{in_turn}
use Rattle.edf_intake.proofs.laws.as_one_list.Goals as goal

pub returns : goal.returns
returns g c = in_turn g.S.Store
