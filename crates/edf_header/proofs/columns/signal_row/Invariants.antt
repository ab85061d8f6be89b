use Rattle.std.proofs.Common.{◌≡◌, length, take}
use Rattle.edf_header.specs.Fields.{fields}
use Rattle.edf_header.specs.Signal.{row_by}
use Rattle.edf_header.proofs.columns.signal_row.Given as goal

abbrev pub invariant-loop-at : goal.invariant-loop-at
invariant-loop-at l = (length l.row ≡ 256)
    × (take (length (row_by (take l.at-index fields) l.bytes l.n l.i)) l.row ≡ row_by
    (take l.at-index fields) l.bytes l.n l.i)
