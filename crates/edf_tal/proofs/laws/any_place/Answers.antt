use Rattle.edf_tal.proofs.Again.{blocks-read-elsewhere}
use Rattle.edf_tal.proofs.laws.any_place.Goals as goal

pub returns : goal.returns
returns c = blocks-read-elsewhere
