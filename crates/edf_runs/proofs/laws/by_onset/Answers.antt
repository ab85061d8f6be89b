use Rattle.edf_runs.proofs.ByOnset.{each-where-started, stay-alike, stay-in-order}
use Rattle.edf_runs.proofs.WhereItLies.{each-where-it-lies}
use Rattle.edf_runs.proofs.SoundByOnset.{stay-sound}
use Rattle.edf_runs.proofs.laws.by_onset.Goals as goal

pub returns-clause-which : goal.returns-clause-which
returns-clause-which c = each-where-started

pub returns-clause-lies : goal.returns-clause-lies
returns-clause-lies c = each-where-it-lies

pub returns-clause-alike : goal.returns-clause-alike
returns-clause-alike c = stay-alike

pub returns-clause-order : goal.returns-clause-order
returns-clause-order c = stay-in-order

pub returns-clause-sound : goal.returns-clause-sound
returns-clause-sound c = stay-sound
