use Rattle.std.proofs.Common.{ap, ◌∙◌, w64, arith, refl}
use Rattle.std.proofs.lemmas.Int.{to_z-of_z}
use Rattle.sqlite.specs.declared.types.Value.TheVariants.{Int}
use Rattle.sqlite.specs.Held.{state}
use Rattle.sqlite_exec.proofs.MarkLemmas.{if_ok_then}
use Rattle.edf_tables.proofs.QueryTexts.{count_text, count_is}
use Rattle.edf_tables.proofs.Shown.{plain_at, count_shown}
use Rattle.edf_tables.proofs.SameText.{plain_of, shown_of}
use Rattle.edf_tables.proofs.records.count_rows.Goals as goal

pub rows_shown-requires : goal.rows_shown-requires
rows_shown-requires g c clean =
    plain_of _ _ _ (plain_at count_text _ _ count_is (state g.S.Store c.args.conn.now)
    (c.requires.schema clean)) refl

pub returns-clause-count : goal.returns-clause-count
returns-clause-count g c clean = if_ok_then c.first_count.result c.first_count.ensures.value
    (λ found e. count_shown c.args.recording found (state g.S.Store c.args.conn.now)
    (state g.S.Store c.rows_shown.new.conn) c.in_ok-rows.rows.items
    (c.requires.schema (omega (arith, c.rows_shown.ensures.survives.clean)))
    (shown_of _ _ _ _ _ _ (rw (c.params-to_sql.ensures
    ∙ ap Int (to_z-of_z w64 c.args.recording c.ranges.recording)) at
    (c.in_ok-rows.ensures.shown clean)) refl) e)
