use Rattle.edf_runs.proofs.ByOnset.{are-one-however-spread}
use Rattle.edf_runs.proofs.Stays.{are-one-by-onset, stays-by-onset}
use Rattle.edf_runs.proofs.ToldAlike.{told-alike}
use Rattle.edf_runs.proofs.laws.one_by_onset.Goals as goal

pub returns-clause-one : goal.returns-clause-one
returns-clause-one c = are-one-by-onset

pub returns-clause-stays : goal.returns-clause-stays
returns-clause-stays c = stays-by-onset

pub returns-clause-spread : goal.returns-clause-spread
returns-clause-spread c = are-one-however-spread

pub returns-clause-told : goal.returns-clause-told
returns-clause-told c = told-alike
