use Rattle.std.proofs.Common.{◌≡◌, ◌++◌, ◌∷◌, [], take}
use Rattle.edf_header.specs.Fields.{fields}
use Rattle.edf_header.specs.Signal.{columns_by, rows_of}
use Rattle.edf_header.proofs.columns.push_columns.Given as goal

abbrev pub invariant-loop-at : goal.invariant-loop-at
invariant-loop-at l = l.out.items ≡ l.fn.out.items
    ++ columns_by (take l.at-index fields) (rows_of l.rows ++ l.last ∷ [])
