use Rattle.std.proofs.Common.{refl}
use Rattle.sqlite.specs.Held.{state}
use Rattle.edf_tables.proofs.Commits.{committed, commit_survives}
use Rattle.edf_tables.proofs.Ends.{commit_ends}
use Rattle.edf_tables.proofs.Keeping.{on_err, write_refused}
use Rattle.edf_tables.proofs.SameText.{crash_of, runs_of}
use Rattle.edf_tables.proofs.transaction.commit.Goals as goal

pub returns-clause-committed : goal.returns-clause-committed
returns-clause-committed g c clean =
    committed (state g.S.Store c.args.conn.now) (state g.S.Store c.execute.new.self) _
    (runs_of _ _ _ _ _ _ (c.in_ok-execute.ensures.runs clean) refl)

pub returns-clause-survives : goal.returns-clause-survives
returns-clause-survives g c = commit_survives (state g.S.Store c.args.conn.now)
    (state g.S.Store c.execute.new.self) (crash_of _ _ _ _ _ c.execute.ensures.survives refl)

pub returns-in_err-execute-clause-survives : goal.returns-in_err-execute-clause-survives
returns-in_err-execute-clause-survives g c =
    commit_survives (state g.S.Store c.args.conn.now) (state g.S.Store c.execute.new.self)
    (crash_of _ _ _ _ _ c.execute.ensures.survives refl)

pub returns-in_err-execute-clause-refused : goal.returns-in_err-execute-clause-refused
returns-in_err-execute-clause-refused g c clean =
    on_err c.from_residual.result (write_refused _ _ (state g.S.Store c.args.conn.now)
    (state g.S.Store c.execute.new.self) _ (c.in_err-execute.ensures.runs clean))

pub returns-clause-ended : goal.returns-clause-ended
returns-clause-ended g c clean =
    commit_ends (state g.S.Store c.args.conn.now) (state g.S.Store c.execute.new.self) _
    (runs_of _ _ _ _ _ _ (c.in_ok-execute.ensures.runs clean) refl)

pub returns-in_err-execute-clause-ended : goal.returns-in_err-execute-clause-ended
returns-in_err-execute-clause-ended g c clean =
    commit_ends (state g.S.Store c.args.conn.now) (state g.S.Store c.execute.new.self) _
    (runs_of _ _ _ _ _ _ (c.in_err-execute.ensures.runs clean) refl)
