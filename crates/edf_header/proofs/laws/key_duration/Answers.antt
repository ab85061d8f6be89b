use Rattle.edf_header.proofs.Cited.{key-duration-some, key-duration-bound}
use Rattle.edf_header.proofs.laws.key_duration.Goals as goal

pub returns : goal.returns
returns c = record { some = key-duration-some; bound = key-duration-bound }
