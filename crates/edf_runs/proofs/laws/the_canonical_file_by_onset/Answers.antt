use Rattle.edf_runs.proofs.CanonicalByOnset.{stay-joined, writes-by-onset, writes-alike}
use Rattle.edf_runs.proofs.laws.the_canonical_file_by_onset.Goals as goal

pub returns-clause-unchanged : goal.returns-clause-unchanged
returns-clause-unchanged c = stay-joined

pub returns-clause-file : goal.returns-clause-file
returns-clause-file c = writes-by-onset

pub returns-clause-alike : goal.returns-clause-alike
returns-clause-alike c = writes-alike
