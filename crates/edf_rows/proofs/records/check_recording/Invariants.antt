use Rattle.std.proofs.Common.{◌≡◌}
use Rattle.sqlite.specs.Held.{state}
use Rattle.sqlite.specs.State.{HasCleanDisk, Survives, IsUnchanged}
use Rattle.edf_rows.proofs.Standing.{Stands}
use Rattle.edf_rows.proofs.records.check_recording.Given as goal

abbrev pub invariant-loop-count : goal.invariant-loop-count
invariant-loop-count g l = record {
  same_reference : l.rows.conn.ghost_name ≡ l.initial.rows.conn.ghost_name;
  crash : Survives (state g.S.Store l.fn.conn) (state g.S.Store l.rows.conn.now) (λ _. ⊥);
  same : HasCleanDisk (state g.S.Store l.rows.conn.now) →
      IsUnchanged (state g.S.Store l.fn.conn) (state g.S.Store l.rows.conn.now);
  stands : HasCleanDisk (state g.S.Store l.rows.conn.now) →
      Stands g.S.Store l.fn.recording l.fn.identity l.last l.count l.rows.conn.now;
}
