use Rattle.edf_tal.proofs.ReadAnnotations.{blocks-read-start, blocks-read-annotations}
use Rattle.edf_tal.proofs.laws.read_annotations.Goals as goal

pub returns-clause-start : goal.returns-clause-start
returns-clause-start c = blocks-read-start

pub returns-clause-annotations : goal.returns-clause-annotations
returns-clause-annotations c = blocks-read-annotations

pub returns-clause-limits : goal.returns-clause-limits
returns-clause-limits c = λ bs s p start list r. r.limits
