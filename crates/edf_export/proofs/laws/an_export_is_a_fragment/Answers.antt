use Rattle.edf_canonical.proofs.Files.{its-own}
use Rattle.edf_export.proofs.laws.an_export_is_a_fragment.Goals as goal

pub returns : goal.returns
returns c = λ before after k rs len e. its-own e.file k rs e.canonical
