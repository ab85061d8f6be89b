use Rattle.edf_header.proofs.Keys.{bytes-back}
use Rattle.edf_header.proofs.laws.bytes_back.Goals as goal

pub returns : goal.returns
returns c = bytes-back
