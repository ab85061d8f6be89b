use Rattle.edf_time.proofs.OneShortest.{one-shortest}
use Rattle.edf_time.proofs.laws.one_shortest.Goals as goal

pub returns : goal.returns
returns c = one-shortest
