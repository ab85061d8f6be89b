use Rattle.edf_fragment.proofs.Parsed.{some-parse, one-parse}
use Rattle.edf_fragment.proofs.laws.each_parses_to_one.Goals as goal

pub returns : goal.returns
returns c = record { some = some-parse; one = one-parse }
