use Rattle.edf_header.proofs.SignalLaws.{one-signals}
use Rattle.edf_header.proofs.laws.one_signals.Goals as goal

pub returns : goal.returns
returns c = one-signals
