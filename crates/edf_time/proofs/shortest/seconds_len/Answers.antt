use Rattle.std.proofs.Common.{arith}
use Rattle.edf_time.proofs.Short.{length-short}
use Rattle.edf_time.proofs.shortest.seconds_len.Goals as goal

pub returns : goal.returns
returns c = omega (
  arith,
  length-short c.args.nanos,
  c.whole_len.ensures.value,
  c.fraction_len.ensures.value,
)
