use Rattle.edf_holdings.proofs.InSets.{near_two_law}
use Rattle.edf_holdings.proofs.Selected.{near_is_selected}
use Rattle.edf_holdings.proofs.meaning.near.Goals as goal

pub returns-clause-two : goal.returns-clause-two
returns-clause-two c = near_two_law

pub returns-clause-selected : goal.returns-clause-selected
returns-clause-selected c = near_is_selected
