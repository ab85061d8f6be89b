use Rattle.edf_canonical.proofs.Files.{its-own}
use Rattle.edf_canonical.proofs.laws.a_canonical_file_is_read_again.Goals as goal

pub returns : goal.returns
returns c = its-own
