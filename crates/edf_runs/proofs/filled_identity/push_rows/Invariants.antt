use Rattle.std.proofs.Common.{◌≡◌, ◌++◌, take}
use Rattle.edf_header.specs.Signal.{rows_of}
use Rattle.edf_runs.specs.Inside.Renaming.{divided_rows}
use Rattle.edf_runs.proofs.filled_identity.push_rows.Given as goal

abbrev pub invariant-loop-i : goal.invariant-loop-i
invariant-loop-i l = l.out.items
    ≡ l.initial.out.items ++ divided_rows l.parts (take l.i (rows_of l.rows))
