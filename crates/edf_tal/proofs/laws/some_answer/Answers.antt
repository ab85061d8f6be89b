use Rattle.edf_tal.proofs.Judge.{blocks-some-answer, blocks-no-memory}
use Rattle.edf_tal.proofs.laws.some_answer.Goals as goal

pub returns-clause-some : goal.returns-clause-some
returns-clause-some c = blocks-some-answer

pub returns-clause-not_memory : goal.returns-clause-not_memory
returns-clause-not_memory c = blocks-no-memory
