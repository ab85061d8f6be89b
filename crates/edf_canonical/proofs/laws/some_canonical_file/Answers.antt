use Rattle.edf_canonical.proofs.SomeFile.{some-file, spelled-file}
use Rattle.edf_canonical.proofs.laws.some_canonical_file.Goals as goal

pub returns-clause-sound : goal.returns-clause-sound
returns-clause-sound c = some-file

pub returns-clause-spelled : goal.returns-clause-spelled
returns-clause-spelled c = spelled-file
