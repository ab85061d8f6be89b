use Rattle.edf_time.proofs.SomeReading.{some-date, some-yearless, some-startdates, some-time}
use Rattle.edf_time.proofs.SomeReading.{some-id_date}
use Rattle.edf_time.proofs.laws.some_date.Goals as goal

pub returns : goal.returns
returns c = record {
  date = some-date;
  yearless = some-yearless;
  startdates = some-startdates;
  time = some-time;
  id_date = some-id_date;
}
