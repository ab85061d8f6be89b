use Rattle.edf_serve.proofs.Forms.{asks-once}
use Rattle.edf_serve.proofs.laws.asks_once.Goals as goal

pub returns : goal.returns
returns c = asks-once
