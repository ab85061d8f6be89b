use Rattle.edf_header.proofs.Cited.{one-canonical-header}
use Rattle.edf_header.proofs.laws_canonical.one_canonical_header.Goals as goal

pub returns : goal.returns
returns c = one-canonical-header
