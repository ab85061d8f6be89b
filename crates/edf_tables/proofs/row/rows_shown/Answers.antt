use Rattle.std.proofs.Common.{arith}
use Rattle.sqlite.specs.Held.{state}
use Rattle.edf_tables.proofs.Reading.{query_same, query_keeps, query_quiet, query_refused}
use Rattle.edf_tables.proofs.row.rows_shown.Goals as goal

pub returns-clause-same : goal.returns-clause-same
returns-clause-same g c clean =
    query_same c.args.sql.now _ (state g.S.Store c.args.conn.now)
    (state g.S.Store c.query_all.new.self)
    (c.requires (omega (arith, c.query_all.ensures.survives.clean))) c.query_all.result
    (c.query_all.ensures.ok clean)

pub returns-clause-committed : goal.returns-clause-committed
returns-clause-committed g c clean =
    query_keeps c.args.sql.now _ (state g.S.Store c.args.conn.now)
    (state g.S.Store c.query_all.new.self)
    (c.requires (omega (arith, c.query_all.ensures.survives.clean))) c.query_all.result
    (c.query_all.ensures.ok clean) (c.query_all.ensures.err clean)

pub returns-clause-refused : goal.returns-clause-refused
returns-clause-refused g c clean =
    query_refused c.args.sql.now _ (state g.S.Store c.args.conn.now)
    (state g.S.Store c.query_all.new.self)
    (c.requires (omega (arith, c.query_all.ensures.survives.clean))) c.query_all.result
    (c.query_all.ensures.err clean)

pub returns-clause-survives : goal.returns-clause-survives
returns-clause-survives g c = query_quiet c.args.sql.now _ (state g.S.Store c.args.conn.now)
    (state g.S.Store c.query_all.new.self) c.requires c.query_all.ensures.survives
