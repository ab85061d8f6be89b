use Rattle.edf_page.proofs.Nights.{one-night}
use Rattle.edf_page.proofs.laws.one_night_comes.Goals as goal

pub returns : goal.returns
returns c = one-night
