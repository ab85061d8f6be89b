use Rattle.edf_holdings.proofs.KeyLists.{keys_are_one}
use Rattle.edf_holdings.proofs.InSets.{list_is_set, holdings_are_sets, joined_has_both}
use Rattle.edf_holdings.proofs.InSets.{all_has_both}
use Rattle.edf_holdings.proofs.meaning.sets.Goals as goal

pub returns-clause-list : goal.returns-clause-list
returns-clause-list c = list_is_set

pub returns-clause-holdings : goal.returns-clause-holdings
returns-clause-holdings c = holdings_are_sets

pub returns-clause-union : goal.returns-clause-union
returns-clause-union c = joined_has_both

pub returns-clause-all : goal.returns-clause-all
returns-clause-all c = all_has_both

pub returns-clause-keys : goal.returns-clause-keys
returns-clause-keys c = keys_are_one
