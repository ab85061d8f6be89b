use Rattle.edf_field.proofs.NumberTexts.{physical-texts}
use Rattle.edf_field.proofs.laws_grammar.physical_texts.Goals as goal

pub returns : goal.returns
returns c = physical-texts
