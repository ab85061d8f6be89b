use Rattle.edf_time.proofs.Startdates.{start-parts, start-two_digits}
use Rattle.edf_time.proofs.laws.start_parts.Goals as goal

pub returns : goal.returns
returns c = record {
  date = λ date time id start s. (start-parts date time id start s).is_date;
  time = λ date time id start s. (start-parts date time id start s).is_time;
  bound = λ date time id start s. (start-parts date time id start s).in_window;
  two_digits = start-two_digits;
  second = λ date time id start s. (start-parts date time id start s).whole;
}
