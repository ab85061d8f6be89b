use Rattle.std.proofs.Common.{◌<◌, ℕ}
use Rattle.edf_mend.proofs.Rows.{KeepsNth}
use Rattle.edf_mend.proofs.header.keeps_signals.Given as goal

abbrev pub invariant-loop-i : goal.invariant-loop-i
invariant-loop-i l = (j : ℕ) → j < l.i →
    KeepsNth l.timed l.headers.n l.headers.second.now l.headers.count l.headers.strict_signals.now j
