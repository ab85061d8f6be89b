use Rattle.edf_cli.proofs.Opened.{opened-either}
use Rattle.edfruns_command.proofs.Unchanged.{stops-for-memory}
use Rattle.edfruns_command.proofs.picture_command.draw_file.Goals as goal

pub returns-in-Err-clause-answer : goal.returns-in-Err-clause-answer
returns-in-Err-clause-answer g c = stops-for-memory _ _

pub returns-in-Ok-clause-opened : goal.returns-in-Ok-clause-opened
returns-in-Ok-clause-opened g c = opened-either c.draw_listed.result
    (g.I.Inputs.opened c.args.inputs.now) (g.I.Inputs.opened c.open.new.self) c.args.file.now
    c.in-Ok.ensures.names
