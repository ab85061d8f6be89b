use Rattle.edf_cli.proofs.Opened.{opened-once}
use Rattle.edfruns_command.proofs.cut_command.write_again.Goals as goal

pub returns-clause-opened : goal.returns-clause-opened
returns-clause-opened g c = opened-once _ _ _ c.in-Ok.ensures.names
