use Rattle.edf_time.proofs.SomeReading.{some-value, some-decimal}
use Rattle.edf_time.proofs.laws.some_decimal.Goals as goal

pub returns : goal.returns
returns c = record { value = some-value; fault = some-decimal }
