use Rattle.edf_runs.proofs.Order.{have-one-order}
use Rattle.edf_runs.proofs.laws.annotations_have_one_order.Goals as goal

pub returns : goal.returns
returns c = have-one-order
