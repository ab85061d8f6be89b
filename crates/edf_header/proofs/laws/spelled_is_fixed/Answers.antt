use Rattle.edf_header.proofs.Cited.{is-fixed}
use Rattle.edf_header.proofs.laws.spelled_is_fixed.Goals as goal

pub returns : goal.returns
returns c = is-fixed
