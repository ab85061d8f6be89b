use Rattle.edf_tal.proofs.Again.{read-any, read-alone, read-first, read-after}
use Rattle.edf_tal.proofs.laws.read_again.Goals as goal

pub returns-clause-any : goal.returns-clause-any
returns-clause-any c = read-any

pub returns-clause-first : goal.returns-clause-first
returns-clause-first c = read-first

pub returns-clause-after : goal.returns-clause-after
returns-clause-after c = read-after

pub returns-clause-alone : goal.returns-clause-alone
returns-clause-alone c = read-alone
