use Rattle.edf_field.proofs.Cited.{duration-value, duration-bound}
use Rattle.edf_field.proofs.laws.duration_value.Goals as goal

pub returns : goal.returns
returns c = record { value = duration-value; bound = duration-bound }
