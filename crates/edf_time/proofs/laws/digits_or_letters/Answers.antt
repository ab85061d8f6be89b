use Rattle.edf_time.proofs.FieldTexts.{not-yearless}
use Rattle.edf_time.proofs.Startdates.{digits-whatever, has-form}
use Rattle.edf_time.proofs.laws.digits_or_letters.Goals as goal

pub returns : goal.returns
returns c = record { digits = digits-whatever; yearless = not-yearless; form = has-form }
