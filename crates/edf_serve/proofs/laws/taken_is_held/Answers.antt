use Rattle.edf_serve.proofs.Held
use Rattle.edf_serve.proofs.laws.taken_is_held.Goals as goal

pub returns : goal.returns
returns g c = Held.taken_is_held g.S.Store
