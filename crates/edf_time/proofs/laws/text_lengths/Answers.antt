use Rattle.edf_time.proofs.VisibleBytes.{date-length, time-length, id_date-length, instant-length}
use Rattle.edf_time.proofs.laws.text_lengths.Goals as goal

pub returns : goal.returns
returns c = record {
  date = date-length;
  time = time-length;
  id_date = id_date-length;
  instant =
      instant-length;
}
