use Rattle.edf_time.proofs.IdDates.{one-id_day, one-id_text}
use Rattle.edf_time.proofs.laws.one_id_date.Goals as goal

pub returns : goal.returns
returns c = record { day = one-id_day; text = one-id_text }
