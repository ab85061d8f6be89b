use Rattle.edf_header.proofs.Cited.{one-header}
use Rattle.edf_header.proofs.laws_canonical.is_header_one.Goals as goal

pub returns : goal.returns
returns c = λ bytes rest other_rest header other i j.
    one-header bytes header other rest other_rest i j
