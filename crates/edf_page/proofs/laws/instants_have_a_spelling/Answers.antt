use Rattle.edf_page.proofs.Spelling.{one_spelling, one_spelling-is}
use Rattle.edf_page.proofs.laws.instants_have_a_spelling.Goals as goal

pub returns : goal.returns
returns c = (one_spelling, one_spelling-is)
