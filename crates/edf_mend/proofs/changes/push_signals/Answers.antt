use Rattle.edf_mend.proofs.Rows.{one-row}
use Rattle.edf_mend.proofs.changes.push_signals.Goals as goal

pub loop-i-preserved : goal.loop-i-preserved
loop-i-preserved c =
    let h = c.args.headers.now in
    one-row h.n h.second.now h.count h.strict_signals.now c.loop-i.i _ _ _ _ _ c.loop-i.invariant
    c.old_row-old.ensures c.new_row-new.ensures c.in_ok-push_row.ensures
