use Rattle.edf_fragment.proofs.InTurn.{blocks-in-turn, ordinary-in-turn}
use Rattle.edf_fragment.proofs.laws.signals_in_turn.Goals as goal

pub returns-clause-blocks : goal.returns-clause-blocks
returns-clause-blocks c = blocks-in-turn

pub returns-clause-ordinary : goal.returns-clause-ordinary
returns-clause-ordinary c = ordinary-in-turn
