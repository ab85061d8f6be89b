use Rattle.edf_holdings.proofs.Accepted.{after_has_accepted, refused_changes_nothing}
use Rattle.edf_holdings.proofs.Clashes.{clash_is_there, counts_are_named, new_is_counted}
use Rattle.edf_holdings.proofs.InSets.{test_is_fits, accepted_where_fits, clash_is_named, own_list}
use Rattle.edf_holdings.proofs.meaning.intake.Goals as goal

pub returns-clause-fits : goal.returns-clause-fits
returns-clause-fits c = test_is_fits

pub returns-clause-accepted : goal.returns-clause-accepted
returns-clause-accepted c = accepted_where_fits

pub returns-clause-named : goal.returns-clause-named
returns-clause-named c = clash_is_named

pub returns-clause-after : goal.returns-clause-after
returns-clause-after c = after_has_accepted

pub returns-clause-refused : goal.returns-clause-refused
returns-clause-refused c = refused_changes_nothing

pub returns-clause-own : goal.returns-clause-own
returns-clause-own c = own_list

pub returns-clause-there : goal.returns-clause-there
returns-clause-there c = clash_is_there

pub returns-clause-counts : goal.returns-clause-counts
returns-clause-counts c = counts_are_named

pub returns-clause-new : goal.returns-clause-new
returns-clause-new c = new_is_counted
