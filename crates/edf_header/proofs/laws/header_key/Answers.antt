use Rattle.edf_header.proofs.Cited.{header-has-key, header-has-layout}
use Rattle.edf_header.proofs.laws.header_key.Goals as goal

pub returns : goal.returns
returns c = record { key = header-has-key; layout = header-has-layout }
