use Rattle.std.proofs.Common.{◌∙◌, arith, refl}
use Rattle.sqlite.specs.Held.{state}
use Rattle.sqlite_exec.proofs.MarkLemmas.{if_ok_then}
use Rattle.edf_tables.proofs.QueryTexts.{identities_text, identities_is}
use Rattle.edf_tables.proofs.Shown.{plain_at, identities_shown}
use Rattle.edf_tables.proofs.SameText.{plain_of, shown_of}
use Rattle.edf_tables.proofs.list.identities.Goals as goal

pub rows_shown-requires : goal.rows_shown-requires
rows_shown-requires g c clean =
    plain_of _ _ _ (plain_at identities_text _ _ identities_is (state g.S.Store c.args.conn.now)
    (c.requires.apart clean).schema) refl

pub returns-clause-identities : goal.returns-clause-identities
returns-clause-identities g c clean =
    if_ok_then c.identities_in.result c.identities_in.ensures.value (λ found e. e
    ∙ identities_shown (state g.S.Store c.args.conn.now) (state g.S.Store c.rows_shown.new.conn)
    c.in_ok-rows.rows.items (c.requires.apart (omega (arith, c.rows_shown.ensures.survives.clean)))
    (shown_of _ _ _ _ _ _ (c.in_ok-rows.ensures.shown clean) refl))
