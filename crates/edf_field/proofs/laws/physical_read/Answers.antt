use Rattle.edf_field.proofs.Grammar.{read-as}
use Rattle.edf_field.proofs.laws.physical_read.Goals as goal

pub returns : goal.returns
returns c = read-as
