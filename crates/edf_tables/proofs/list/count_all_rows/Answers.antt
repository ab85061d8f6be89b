use Rattle.std.proofs.Common.{arith, inl, refl}
use Rattle.sqlite.specs.Held.{state}
use Rattle.sqlite_exec.proofs.MarkLemmas.{if_ok_then}
use Rattle.edf_tables.proofs.QueryTexts.{count_all_text, count_all_is}
use Rattle.edf_tables.proofs.Shown.{plain_at, count_all_shown}
use Rattle.edf_tables.specs.Refused.{IsUnchangedOrRolledBack}
use Rattle.edf_tables.proofs.Keeping.{on_err}
use Rattle.edf_tables.proofs.SameText.{plain_of, shown_of}
use Rattle.edf_tables.proofs.list.count_all_rows.Goals as goal

pub rows_shown-requires : goal.rows_shown-requires
rows_shown-requires g c clean =
    plain_of _ _ _ (plain_at count_all_text _ _ count_all_is (state g.S.Store c.args.conn.now)
    (c.requires.schema clean)) refl

pub returns-clause-count : goal.returns-clause-count
returns-clause-count g c clean = if_ok_then c.first_count.result c.first_count.ensures.value
    (λ found e. count_all_shown found (state g.S.Store c.args.conn.now)
    (state g.S.Store c.rows_shown.new.conn) c.in_ok-rows.rows.items
    (c.requires.schema (omega (arith, c.rows_shown.ensures.survives.clean)))
    (shown_of _ _ _ _ _ _ (c.in_ok-rows.ensures.shown clean) refl) e)

pub returns-in_err-rows-clause-refused : goal.returns-in_err-rows-clause-refused
returns-in_err-rows-clause-refused g c clean =
    on_err c.from_residual.result (c.in_err-rows.ensures.refused clean)

pub returns-clause-refused : goal.returns-clause-refused
returns-clause-refused g c clean =
    let left : IsUnchangedOrRolledBack (state g.S.Store c.args.conn.now)
    (state g.S.Store c.rows_shown.new.conn) =
    inl (c.in_ok-rows.ensures.same clean) in
    on_err c.first_count.result left
