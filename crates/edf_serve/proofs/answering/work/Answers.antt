use Rattle.std.proofs.Common.{None, refl}
use Rattle.edf_serve.proofs.answering.work.Goals as goal

pub returns-in-None-clause-worked : goal.returns-in-None-clause-worked
returns-in-None-clause-worked g c = (
  None,
  rw c.in-None.is (refl, (refl, (c.print_bytes.result, c.went.ensures, c.print_bytes.ensures))),
)
