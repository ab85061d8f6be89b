use Rattle.std.proofs.Common.{refl}
use Rattle.sqlite.specs.Held.{state}
use Rattle.edf_tables.proofs.Commits.{begun, begin_survives}
use Rattle.edf_tables.proofs.Keeping.{on_err, write_refused}
use Rattle.edf_tables.proofs.SameText.{crash_of, runs_of}
use Rattle.edf_tables.proofs.transaction.begin.Goals as goal

pub returns-clause-begun : goal.returns-clause-begun
returns-clause-begun g c clean =
    begun (state g.S.Store c.args.conn.now) (state g.S.Store c.execute.new.self) _
    (runs_of _ _ _ _ _ _ (c.in_ok-execute.ensures.runs clean) refl)

pub returns-clause-survives : goal.returns-clause-survives
returns-clause-survives g c = begin_survives (state g.S.Store c.args.conn.now)
    (state g.S.Store c.execute.new.self) (crash_of _ _ _ _ _ c.execute.ensures.survives refl)

pub returns-in_err-execute-clause-survives : goal.returns-in_err-execute-clause-survives
returns-in_err-execute-clause-survives g c =
    begin_survives (state g.S.Store c.args.conn.now) (state g.S.Store c.execute.new.self)
    (crash_of _ _ _ _ _ c.execute.ensures.survives refl)

pub returns-in_err-execute-clause-refused : goal.returns-in_err-execute-clause-refused
returns-in_err-execute-clause-refused g c clean =
    on_err c.from_residual.result (write_refused _ _ (state g.S.Store c.args.conn.now)
    (state g.S.Store c.execute.new.self) _ (c.in_err-execute.ensures.runs clean))
