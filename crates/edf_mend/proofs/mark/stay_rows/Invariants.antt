use Rattle.std.proofs.Common.{◌<◌, ℕ}
use Rattle.edf_header.specs.Signal.{row_at}
use Rattle.edf_mend.specs.Header.{StaysRow}
use Rattle.edf_mend.proofs.mark.stay_rows.Given as goal

abbrev pub invariant-loop-i : goal.invariant-loop-i
invariant-loop-i l = (j : ℕ) → j < l.i → StaysRow (row_at l.headers.second.now l.headers.n j)
    (row_at l.headers.strict_signals.now l.headers.count j)
