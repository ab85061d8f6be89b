use Rattle.std.proofs.Common.{◌≡◌, map, take}
use Rattle.edf_header.specs.Signal.{rows_of, samples}
use Rattle.edf_runs.proofs.division.sizes_of.Given as goal

abbrev pub invariant-loop-i : goal.invariant-loop-i
invariant-loop-i l = l.sizes.items ≡ map samples (take l.i (rows_of l.rows))
