use Rattle.edf_runs.proofs.FirstWord.{first-word-is-named}
use Rattle.edf_runs.proofs.compared_laws.first_word_is_named.Goals as goal

pub returns : goal.returns
returns c = first-word-is-named
