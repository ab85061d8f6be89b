use Rattle.edf_header.proofs.SignalLaws.{signals-clean}
use Rattle.edf_header.proofs.laws.signals_have_no_fault.Goals as goal

pub returns : goal.returns
returns c = signals-clean
