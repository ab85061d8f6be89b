use Rattle.edf_field.proofs.DurationTexts.{duration-texts}
use Rattle.edf_field.proofs.laws_grammar.duration_texts.Goals as goal

pub returns : goal.returns
returns c = duration-texts
