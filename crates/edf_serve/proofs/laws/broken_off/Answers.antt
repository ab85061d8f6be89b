use Rattle.edf_serve.proofs.Again
use Rattle.edf_serve.proofs.laws.broken_off.Goals as goal

pub returns : goal.returns
returns g c = Again.broken_off g.S.Store
