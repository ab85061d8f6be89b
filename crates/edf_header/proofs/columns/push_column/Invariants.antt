use Rattle.std.proofs.Common.{◌≡◌, ◌++◌, take}
use Rattle.edf_header.specs.Signal.{column_of, rows_of}
use Rattle.edf_header.proofs.columns.push_column.Given as goal

abbrev pub invariant-loop-i : goal.invariant-loop-i
invariant-loop-i l = l.out.items ≡ l.fn.out.items
    ++ column_of (l.at, l.width) (take l.i (rows_of l.rows))
