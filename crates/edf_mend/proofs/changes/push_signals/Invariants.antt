use Rattle.std.proofs.Common.{◌≡◌, ◌++◌}
use Rattle.edf_mend.specs.Changes.{changes_of_signals}
use Rattle.edf_mend.proofs.changes.push_signals.Given as goal

abbrev pub invariant-loop-i : goal.invariant-loop-i
invariant-loop-i l = l.out.items ≡ l.fn.out.items ++ changes_of_signals l.headers.n
    l.headers.second.now l.headers.count l.headers.strict_signals.now l.i
