use Rattle.edf_holdings.proofs.Once.{held_is_known, accepted_again_law, refused_again_law}
use Rattle.edf_holdings.proofs.Once.{repeat_taken_out, from_the_front}
use Rattle.edf_holdings.proofs.laws.once.Goals as goal

pub returns-clause-held : goal.returns-clause-held
returns-clause-held c = held_is_known

pub returns-clause-accepted : goal.returns-clause-accepted
returns-clause-accepted c = accepted_again_law

pub returns-clause-refused : goal.returns-clause-refused
returns-clause-refused c = refused_again_law

pub returns-clause-taken_out : goal.returns-clause-taken_out
returns-clause-taken_out c = repeat_taken_out

pub returns-clause-resent : goal.returns-clause-resent
returns-clause-resent c = from_the_front
