use Rattle.edf_page_exports.proofs.Cuts.{one-cut}
use Rattle.edf_page_exports.proofs.laws.one_cut.Goals as goal

pub returns : goal.returns
returns c = one-cut
