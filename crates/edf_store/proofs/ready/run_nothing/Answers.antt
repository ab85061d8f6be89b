use Rattle.sqlite.specs.Held.{state}
use Rattle.edf_tables.proofs.Keeping.{write_refused, same_left}
use Rattle.edf_store.proofs.Readiness.{ran_nothing, nothing_survives}
use Rattle.edf_store.proofs.ready.run_nothing.Goals as goal

pub returns-clause-same : goal.returns-clause-same
returns-clause-same g c clean =
    ran_nothing (state g.S.Store c.args.conn.now) (state g.S.Store c.execute.new.self) _
    (c.in_ok-execute.ensures.runs clean)

pub returns-clause-committed : goal.returns-clause-committed
returns-clause-committed g c clean =
    same_left (state g.S.Store c.args.conn.now) (state g.S.Store c.execute.new.self)
    (ran_nothing (state g.S.Store c.args.conn.now) (state g.S.Store c.execute.new.self) _
    (c.in_ok-execute.ensures.runs clean))

pub returns-clause-survives : goal.returns-clause-survives
returns-clause-survives g c = nothing_survives (state g.S.Store c.args.conn.now)
    (state g.S.Store c.execute.new.self) c.execute.ensures.survives

pub returns-in_err-execute-clause-committed : goal.returns-in_err-execute-clause-committed
returns-in_err-execute-clause-committed g c clean =
    write_refused _ _ (state g.S.Store c.args.conn.now) (state g.S.Store c.execute.new.self) _
    (c.in_err-execute.ensures.runs clean)

pub returns-in_err-execute-clause-survives : goal.returns-in_err-execute-clause-survives
returns-in_err-execute-clause-survives g c =
    nothing_survives (state g.S.Store c.args.conn.now) (state g.S.Store c.execute.new.self)
    c.execute.ensures.survives
