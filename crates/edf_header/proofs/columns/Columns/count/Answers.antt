use Rattle.std.proofs.Common.{arith, ap, length}
use Rattle.edf_header.proofs.RowSteps.{length-signals}
use Rattle.edf_header.proofs.columns.Columns.count.Goals as goal

pub returns-clause-value : goal.returns-clause-value
returns-clause-value c = omega (
  arith,
  ap length c.self.view_is,
  length-signals c.self.inside.bytes.now c.self.inside.count,
)
