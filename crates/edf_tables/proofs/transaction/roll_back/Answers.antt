use Rattle.std.proofs.Common.{refl}
use Rattle.sqlite.specs.Held.{state}
use Rattle.edf_tables.proofs.Commits.{rolled_back, rollback_survives}
use Rattle.edf_tables.proofs.Keeping.{write_refused, undone_keeps}
use Rattle.edf_tables.proofs.SameText.{crash_of, runs_of}
use Rattle.edf_tables.proofs.transaction.roll_back.Goals as goal

pub returns-clause-undone : goal.returns-clause-undone
returns-clause-undone g c clean =
    rolled_back (state g.S.Store c.args.conn.now) (state g.S.Store c.execute.new.self) _
    (runs_of _ _ _ _ _ _ (c.in_ok-execute.ensures.runs clean) refl)

pub returns-clause-survives : goal.returns-clause-survives
returns-clause-survives g c = rollback_survives (state g.S.Store c.args.conn.now)
    (state g.S.Store c.execute.new.self) (crash_of _ _ _ _ _ c.execute.ensures.survives refl)

pub returns-in_err-execute-clause-survives : goal.returns-in_err-execute-clause-survives
returns-in_err-execute-clause-survives g c =
    rollback_survives (state g.S.Store c.args.conn.now) (state g.S.Store c.execute.new.self)
    (crash_of _ _ _ _ _ c.execute.ensures.survives refl)

pub returns-in_err-execute-clause-committed : goal.returns-in_err-execute-clause-committed
returns-in_err-execute-clause-committed g c clean =
    write_refused _ _ (state g.S.Store c.args.conn.now) (state g.S.Store c.execute.new.self) _
    (c.in_err-execute.ensures.runs clean)

pub returns-clause-committed : goal.returns-clause-committed
returns-clause-committed g c clean =
    undone_keeps (state g.S.Store c.args.conn.now) (state g.S.Store c.execute.new.self)
    (rolled_back (state g.S.Store c.args.conn.now) (state g.S.Store c.execute.new.self) _
    (runs_of _ _ _ _ _ _ (c.in_ok-execute.ensures.runs clean) refl))
