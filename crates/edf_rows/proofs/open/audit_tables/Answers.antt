use Rattle.std.proofs.Common.{arith}
use Rattle.sqlite.specs.Held.{state}
use Rattle.sqlite.specs.State.{HasCleanDisk}
use Rattle.edf_tables.proofs.File.{tables_both}
use Rattle.edf_rows.proofs.Shown.{file_checked}
use Rattle.edf_rows.proofs.open.audit_tables.Goals as goal

pub check_all-requires : goal.check_all-requires
check_all-requires g c = record {
  schema = λ clean. tables_both _ _ (c.in_ok-create_tables.ensures.made clean);
}

pub returns-clause-stays : goal.returns-clause-stays
returns-clause-stays g c clean =
    let mid = state g.S.Store c.create_tables.new.conn in
    let early : HasCleanDisk mid = omega (arith, c.check_all.ensures.checks.survives.clean) in
    file_checked (state g.S.Store c.args.conn.now) mid (state g.S.Store c.check_all.new.conn)
    c.check_all.result (c.create_tables.ensures.stays early)
    (c.in_ok-create_tables.ensures.made early) (c.in_ok-create_tables.ensures.mode early)
    (c.check_all.ensures.checks.same clean) (c.check_all.ensures.checks.refused clean)
