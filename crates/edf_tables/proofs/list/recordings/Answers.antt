use Rattle.std.proofs.Common.{arith, refl}
use Rattle.sqlite.specs.Held.{state}
use Rattle.sqlite_exec.proofs.MarkLemmas.{if_ok_then}
use Rattle.edf_tables.proofs.QueryTexts.{recordings_text, recordings_is}
use Rattle.edf_tables.proofs.Shown.{plain_at, recordings_shown, recordings_in_order}
use Rattle.edf_tables.proofs.SameText.{plain_of, shown_of}
use Rattle.edf_tables.proofs.list.recordings.Goals as goal

pub rows_shown-requires : goal.rows_shown-requires
rows_shown-requires g c clean =
    plain_of _ _ _ (plain_at recordings_text _ _ recordings_is (state g.S.Store c.args.conn.now)
    (c.requires.schema clean)) refl

pub returns-clause-listed : goal.returns-clause-listed
returns-clause-listed g c clean =
    if_ok_then c.rows_shown.result (c.rows_shown.ensures.shown clean)
    (λ rows h. recordings_shown (state g.S.Store c.args.conn.now)
    (state g.S.Store c.rows_shown.new.conn) rows.items
    (c.requires.schema (omega (arith, c.rows_shown.ensures.survives.clean)))
    (shown_of _ _ _ _ _ _ h refl))

pub returns-clause-ordered : goal.returns-clause-ordered
returns-clause-ordered g c clean =
    if_ok_then c.rows_shown.result (c.rows_shown.ensures.shown clean)
    (λ rows h. recordings_in_order (state g.S.Store c.args.conn.now)
    (state g.S.Store c.rows_shown.new.conn) rows.items
    (c.requires.schema (omega (arith, c.rows_shown.ensures.survives.clean)))
    (shown_of _ _ _ _ _ _ h refl))
