use Rattle.edfruns_command.proofs.Unchanged.{stops-for-memory}
use Rattle.edfruns_command.proofs.picture_command.draw_listed.Goals as goal

pub returns-in_default : goal.returns-in_default
returns-in_default g c = stops-for-memory _ _

pub returns-in_default-signals_in : goal.returns-in_default-signals_in
returns-in_default-signals_in g c = stops-for-memory _ _

pub returns-in_default-times_of : goal.returns-in_default-times_of
returns-in_default-times_of g c = stops-for-memory _ _

pub returns-in_default-new : goal.returns-in_default-new
returns-in_default-new g c = stops-for-memory _ _

pub returns : goal.returns
returns g c = stops-for-memory _ _
