use Rattle.std.proofs.Common.{◌<◌, take}
use Rattle.std.specs.List.{AllByRecursion}
use Rattle.sqlite.specs.Held.{state}
use Rattle.sqlite.specs.State.{HasCleanDisk, Survives}
use Rattle.edf_tables.specs.declared.row.TheConstants.{MOST_COUNTED}
use Rattle.edf_rows.specs.Inside.Checked.{KeepsRows}
use Rattle.edf_rows.specs.Inside.All.{AreCounted}
use Rattle.edf_rows.proofs.Counts.{IsUpTo, IsLastOf}
use Rattle.edf_rows.proofs.all.count_owned.Given as goal

abbrev pub invariant-loop-row : goal.invariant-loop-row
invariant-loop-row g l = record {
  crash : Survives (state g.S.Store l.initial.conn) (state g.S.Store l.conn) (λ _. ⊥);
  same : HasCleanDisk (state g.S.Store l.conn) →
      KeepsRows (state g.S.Store l.initial.conn) (state g.S.Store l.conn);
  counted : HasCleanDisk (state g.S.Store l.conn) →
      AreCounted l.cap (state g.S.Store l.initial.conn).now.trees (take l.row-index l.rows) l.sum;
  up_to : AllByRecursion (IsUpTo l.last) (take l.row-index l.rows);
  met : IsLastOf l.last (take l.row-index l.rows);
  low : l.sum < MOST_COUNTED;
}
