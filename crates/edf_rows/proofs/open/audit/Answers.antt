use Rattle.sqlite.specs.Held.{state}
use Rattle.edf_rows.proofs.Files.{audited}
use Rattle.edf_rows.proofs.open.audit.Goals as goal

pub returns-clause-answers : goal.returns-clause-answers
returns-clause-answers g c clean =
    let has = c.audit_tables.ensures in
    audited c.args.cap (state g.S.Store c.args.conn.now) (state g.S.Store c.audit_tables.new.conn)
    c.audit_tables.result (has.tables clean) (has.answers clean) (has.is_open clean)
    (has.settled clean) (has.idle clean)
