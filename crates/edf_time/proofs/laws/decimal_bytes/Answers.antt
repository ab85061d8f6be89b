use Rattle.std.proofs.lemmas.List.Elements.{All-from_recursion}
use Rattle.edf_time.specs.Decimal.{IsDecimalByte}
use Rattle.edf_time.proofs.OneValue.{bytes-of-seconds}
use Rattle.edf_time.proofs.laws.decimal_bytes.Goals as goal

pub returns : goal.returns
returns c text n s = All-from_recursion IsDecimalByte text (bytes-of-seconds text n s)
