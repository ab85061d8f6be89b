use Rattle.edf_runs.proofs.FilledPlaces.{places-rise, places-are-near, parts-stay-together}
use Rattle.edf_runs.proofs.filled_laws.places.Goals as goal

pub returns-clause-rise : goal.returns-clause-rise
returns-clause-rise c = places-rise

pub returns-clause-near : goal.returns-clause-near
returns-clause-near c = places-are-near

pub returns-clause-together : goal.returns-clause-together
returns-clause-together c = parts-stay-together
