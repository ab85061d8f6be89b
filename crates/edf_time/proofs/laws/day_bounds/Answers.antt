use Rattle.edf_time.proofs.OneDay.{in-bounds}
use Rattle.edf_time.proofs.laws.day_bounds.Goals as goal

pub returns : goal.returns
returns c = record {
  month = λ year month day days is. let b = in-bounds year month day days is in
      (b.month_from, b.month_to);
  day = λ year month day days is. let b = in-bounds year month day days is in
      (b.day_from, b.day_to);
}
