use Rattle.edf_time.proofs.FieldTexts.{one-date_day, one-date_text, date-in-digits}
use Rattle.edf_time.proofs.FieldTexts.{late-after-digits, date-in-window}
use Rattle.edf_time.proofs.Startdates.{one-startdates}
use Rattle.edf_time.proofs.laws.one_date.Goals as goal

pub returns : goal.returns
returns c = record {
  day = one-date_day;
  text = one-date_text;
  startdates = one-startdates;
  bound =
      date-in-digits;
  late_bound = late-after-digits;
  field_bound = date-in-window;
}
