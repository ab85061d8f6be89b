use Rattle.edf_field.proofs.DecimalDigits.{decimal-digits}
use Rattle.edf_field.proofs.laws_grammar.decimal_digits.Goals as goal

pub returns : goal.returns
returns c = decimal-digits
