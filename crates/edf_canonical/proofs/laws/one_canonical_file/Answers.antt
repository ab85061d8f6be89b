use Rattle.edf_canonical.proofs.Files.{one-file}
use Rattle.edf_canonical.proofs.laws.one_canonical_file.Goals as goal

pub returns : goal.returns
returns c = one-file
