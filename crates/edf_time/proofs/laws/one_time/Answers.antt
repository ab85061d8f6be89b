use Rattle.edf_time.proofs.FieldTexts.{one-time_second, one-time_text, time-in-day}
use Rattle.edf_time.proofs.laws.one_time.Goals as goal

pub returns : goal.returns
returns c = record { second = one-time_second; text = one-time_text; bound = time-in-day }
