use Rattle.edf_field.proofs.NumberTexts.{signed-texts}
use Rattle.edf_field.proofs.laws_grammar.signed_texts.Goals as goal

pub returns : goal.returns
returns c = signed-texts
