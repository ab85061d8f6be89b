use Rattle.std.proofs.lemmas.Fmt.{decimal_is_IsNumeral}
use Rattle.std.specs.Fmt.{decimal}
use Rattle.edf_field.specs.Text.{spaces}
use Rattle.std.proofs.Common.{◌++◌}
use Rattle.edf_field.proofs.DurationTexts.{short-filled}
use Rattle.edf_field.proofs.NumberTexts.{whole-texts}
use Rattle.edf_field.proofs.WrittenNumbers.{numeral-number}
use Rattle.edf_field.proofs.laws_grammar.written_texts.Goals as goal

pub returns : goal.returns
returns c = record {
  whole = λ n blanks few.
      let d = decimal_is_IsNumeral n few in
      let r = numeral-number (decimal n) blanks n d.0 d.1 in
      (whole-texts (decimal n ++ spaces blanks) n).0 (r.whole, r.value);
  duration = short-filled;
}
