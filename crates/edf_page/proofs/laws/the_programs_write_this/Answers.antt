use Rattle.std.proofs.Common.{refl}
use Rattle.std.specs.Fmt.{digits}
use Rattle.edf_page.proofs.Nights.{take-writes-lines, list-writes-runs}
use Rattle.edf_page.proofs.laws.the_programs_write_this.Goals as goal

pub returns-clause-take : goal.returns-clause-take
returns-clause-take c = take-writes-lines

pub returns-clause-runs : goal.returns-clause-runs
returns-clause-runs c = list-writes-runs

pub returns-clause-stopped : goal.returns-clause-stopped
unfolding digits
returns-clause-stopped c = (refl, refl)
