use Rattle.std.proofs.Common.{rules}
use Rattle.std.proofs.lemmas.List.{take_rest}
use Rattle.edf_field.proofs.Recordings.{no-day}
use Rattle.edf_field.proofs.identification.read_startdate.Goals as goal

pub returns-in_default : goal.returns-in_default
returns-in_default c =
    (search rules, no-day c.args.text.now c.if-text-eq88.false c.in_default.ensures)

pub returns : goal.returns
returns c = (search rules, c.in-Some.ensures, take_rest c.args.text.now 21)
