use Rattle.edf_rows.proofs.Rows.{same-records, not-bad}
use Rattle.edf_rows.proofs.laws.one_record.Goals as goal

pub returns-clause-one : goal.returns-clause-one
returns-clause-one c = same-records

pub returns-clause-good : goal.returns-clause-good
returns-clause-good c = not-bad
