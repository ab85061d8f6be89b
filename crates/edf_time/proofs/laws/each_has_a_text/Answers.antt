use Rattle.edf_time.proofs.SomeText.{digits-text, letters-text, date-text, id_date-text, time-text}
use Rattle.edf_time.proofs.SomeText.{instant-text}
use Rattle.edf_time.proofs.laws.each_has_a_text.Goals as goal

pub returns-clause-date : goal.returns-clause-date
returns-clause-date c = date-text

pub returns-clause-id_date : goal.returns-clause-id_date
returns-clause-id_date c = id_date-text

pub returns-clause-time : goal.returns-clause-time
returns-clause-time c = time-text

pub returns-clause-instant : goal.returns-clause-instant
returns-clause-instant c = instant-text

pub returns-clause-digits : goal.returns-clause-digits
returns-clause-digits c = digits-text

pub returns-clause-letters : goal.returns-clause-letters
returns-clause-letters c = letters-text
