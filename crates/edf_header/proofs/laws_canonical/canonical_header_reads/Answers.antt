use Rattle.edf_header.proofs.Cited.{canonical-header-reads}
use Rattle.edf_header.proofs.laws_canonical.canonical_header_reads.Goals as goal

pub returns : goal.returns
returns c = canonical-header-reads
