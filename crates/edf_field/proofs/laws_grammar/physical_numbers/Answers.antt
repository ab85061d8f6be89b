use Rattle.edf_field.proofs.PhysicalNumbers.{physical-numbers}
use Rattle.edf_field.proofs.laws_grammar.physical_numbers.Goals as goal

pub returns : goal.returns
returns c = physical-numbers
