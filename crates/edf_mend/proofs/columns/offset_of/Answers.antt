use Rattle.std.proofs.Common.{arith}
use Rattle.edf_header.proofs.RowSteps.{column-fits}
use Rattle.edf_mend.proofs.columns.offset_of.Goals as goal

pub returns-clause-within : goal.returns-clause-within
returns-clause-within c = omega (
  arith,
  column-fits c.args.n c.args.i c.args.at c.args.width c.requires.inside c.requires.fits,
)
