use Rattle.edfstore_open.proofs.OnFile.{some_is_found, run_under}
use Rattle.edfstore_open.proofs.running.run_on_file.Goals as goal

pub returns-in-Ok-clause-run : goal.returns-in-Ok-clause-run
returns-in-Ok-clause-run g c = (
  some_is_found _ _ c.in-Some.is,
  run_under _ _ c.most-cap.ensures c.in-Ok.session c.in-Ok.ensures.ran,
  c.in-Ok.ensures.closed,
  c.in-Ok.ensures.now,
)
