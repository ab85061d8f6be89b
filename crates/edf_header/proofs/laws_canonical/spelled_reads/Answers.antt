use Rattle.edf_header.proofs.SpelledHeader.{spelled-reads}
use Rattle.edf_header.proofs.laws_canonical.spelled_reads.Goals as goal

pub returns : goal.returns
returns c = λ bytes row key days seconds count is spelled.
    spelled-reads bytes key days seconds count row is spelled
