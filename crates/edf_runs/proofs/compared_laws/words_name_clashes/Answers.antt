use Rattle.edf_runs.proofs.Words.{words-name-clashes}
use Rattle.edf_runs.proofs.compared_laws.words_name_clashes.Goals as goal

pub returns : goal.returns
returns c = words-name-clashes
