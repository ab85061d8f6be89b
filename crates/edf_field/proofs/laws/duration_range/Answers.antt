use Rattle.edf_field.proofs.Cited.{lasts-some, lasts-or-not}
use Rattle.edf_field.proofs.laws.duration_range.Goals as goal

pub returns : goal.returns
returns c = record { some = lasts-some; decided = lasts-or-not }
