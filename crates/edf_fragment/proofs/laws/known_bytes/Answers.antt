use Rattle.edf_fragment.proofs.Fragments.{fragment_of_all, fault_of_all}
use Rattle.edf_fragment.proofs.laws.known_bytes.Goals as goal

pub returns : goal.returns
returns c = record { fragment = fragment_of_all; fault = fault_of_all }
