use Rattle.std.proofs.Common.{arith, refl}
use Rattle.sqlite.specs.Held.{state}
use Rattle.sqlite_exec.proofs.MarkLemmas.{if_ok_then}
use Rattle.edf_tables.proofs.QueryTexts.{id_text, id_is}
use Rattle.edf_tables.proofs.Shown.{plain_at, id_shown}
use Rattle.edf_tables.proofs.SameText.{plain_of, shown_of}
use Rattle.edf_tables.proofs.list.select_recording.Goals as goal

pub rows_shown-requires : goal.rows_shown-requires
rows_shown-requires g c clean =
    plain_of _ _ _ (plain_at id_text _ _ id_is (state g.S.Store c.args.conn.now)
    (c.requires.schema clean)) refl

pub returns-clause-id : goal.returns-clause-id
returns-clause-id g c clean = if_ok_then c.first_number.result c.first_number.ensures.value
    (λ found e. id_shown c.args.identity.now found (state g.S.Store c.args.conn.now)
    (state g.S.Store c.rows_shown.new.conn) c.in_ok-rows.rows.items
    (c.requires.schema (omega (arith, c.rows_shown.ensures.survives.clean)))
    (shown_of _ _ _ _ _ _ (rw (c.params-to_sql.ensures) at (c.in_ok-rows.ensures.shown clean)) refl)
    e)
