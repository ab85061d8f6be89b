use Rattle.std.proofs.Common.{ap, ◌∙◌, w64, arith, refl}
use Rattle.std.proofs.lemmas.Int.{to_z-of_z}
use Rattle.sqlite.specs.declared.types.Value.TheVariants.{Int}
use Rattle.sqlite.specs.Held.{state}
use Rattle.sqlite_exec.proofs.MarkLemmas.{if_ok_then}
use Rattle.edf_tables.proofs.QueryTexts.{next_text, next_is}
use Rattle.edf_tables.proofs.Shown.{plain_at, next_shown}
use Rattle.edf_tables.proofs.SameText.{plain_of, shown_of}
use Rattle.edf_tables.proofs.records.next_start.Goals as goal

pub rows_shown-requires : goal.rows_shown-requires
rows_shown-requires g c clean =
    plain_of _ _ _ (plain_at next_text _ _ next_is (state g.S.Store c.args.conn.now)
    (c.requires.ready clean).schema) refl

pub returns-clause-next : goal.returns-clause-next
returns-clause-next g c clean = if_ok_then c.first_number.result c.first_number.ensures.value
    (λ found e. next_shown c.args.recording c.args.from found (state g.S.Store c.args.conn.now)
    (state g.S.Store c.rows_shown.new.conn) c.in_ok-rows.rows.items
    (c.requires.ready (omega (arith, c.rows_shown.ensures.survives.clean)))
    (shown_of _ _ _ _ _ _ (rw (
      c.params-to_sql.ensures
          ∙ ap Int (to_z-of_z w64 c.args.recording c.ranges.recording),
      c.params-to_sql-2.ensures
          ∙ ap Int (to_z-of_z w64 c.args.from c.ranges.from),
    ) at (c.in_ok-rows.ensures.shown clean)) refl)
    e)
