use Rattle.edf_runs.proofs.WordCounts.{words-are-counts}
use Rattle.edf_runs.proofs.compared_laws.words_are_counts.Goals as goal

pub returns : goal.returns
returns c = words-are-counts
