use Rattle.std.proofs.Common.{ap, ◌∙◌, w64, arith, refl}
use Rattle.std.proofs.lemmas.Int.{to_z-of_z}
use Rattle.sqlite.specs.declared.types.Value.TheVariants.{Int}
use Rattle.sqlite.specs.Held.{state}
use Rattle.sqlite_exec.proofs.MarkLemmas.{if_ok_then}
use Rattle.edf_tables.proofs.QueryTexts.{page_text, page_is}
use Rattle.edf_tables.proofs.Shown.{plain_at, typed, page_shown}
use Rattle.edf_tables.proofs.SameText.{plain_of, shown_of}
use Rattle.edf_tables.proofs.records.page_rows.Goals as goal

pub records_shown-requires : goal.records_shown-requires
records_shown-requires g c clean =
    plain_of _ _ _ (plain_at page_text _ _ page_is (state g.S.Store c.args.conn.now)
    (c.requires.ready clean).schema) refl

pub returns-clause-page : goal.returns-clause-page
returns-clause-page g c clean = if_ok_then c.records_shown.result
    (rw (
      c.params-to_sql.ensures ∙ ap Int (to_z-of_z w64 c.args.recording c.ranges.recording),
      c.params-to_sql-2.ensures ∙ ap Int (to_z-of_z w64 c.args.after c.ranges.after),
      c.params-to_sql-3.ensures,
    ) at (c.records_shown.ensures.shown clean))
    (λ found it. typed found.items it.0 _ it.2
    (page_shown c.args.recording c.args.after c.args.limit (state g.S.Store c.args.conn.now)
    (state g.S.Store c.records_shown.new.conn) it.0
    (c.requires.ready (omega (arith, c.records_shown.ensures.survives.clean)))
    (shown_of _ _ _ _ _ _ it.1 refl)))
