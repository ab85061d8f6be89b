use Rattle.edf_cli.proofs.Opened.{opened-once}
use Rattle.edfruns_command.proofs.list_command.listing_of.Goals as goal

pub returns-in-Ok-clause-answer : goal.returns-in-Ok-clause-answer
returns-in-Ok-clause-answer g c =
    let one = c.in_ok-outline.ensures.answer in
    record { rest = one.0; read = c.in-Ok.ensures _ one.0 one.1 }

pub returns-in-Err-clause-opened : goal.returns-in-Err-clause-opened
returns-in-Err-clause-opened g c = opened-once _ _ _ c.in_ok-outline.ensures.opened
