use Rattle.edf_field.proofs.NumberTexts.{whole-texts}
use Rattle.edf_field.proofs.laws_grammar.whole_texts.Goals as goal

pub returns : goal.returns
returns c = whole-texts
