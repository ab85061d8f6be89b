use Rattle.std.proofs.Common.{arith}
use Rattle.edf_header.proofs.RowSteps.{column-fits}
use Rattle.edf_header.proofs.columns.column.Goals as goal

pub slice_bounds-result-end : goal.slice_bounds-result-end
slice_bounds-result-end c = omega (
  arith,
  column-fits c.args.n c.args.i c.args.at c.args.width c.requires.inside c.requires.fits,
)
