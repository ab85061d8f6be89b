use Rattle.std.proofs.Common.{◌≡◌, ◌≤◌, ◌*◌, take}
use Rattle.edf_header.specs.Signal.{ordinary, rows_of, samples_in_all}
use Rattle.edf_header.proofs.identity_checks.ordinary_samples.Given as goal

abbrev pub invariant-loop-i : goal.invariant-loop-i
invariant-loop-i l = (l.total ≡ samples_in_all (ordinary (take l.i (rows_of l.rows))))
    × (l.total ≤ l.i * 100_000_000)
