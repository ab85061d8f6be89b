use Rattle.std.proofs.Common.{ap, ◌∙◌, w64, arith, refl}
use Rattle.std.proofs.lemmas.Int.{to_z-of_z}
use Rattle.sqlite.specs.declared.types.Value.TheVariants.{Int}
use Rattle.sqlite.specs.Held.{state}
use Rattle.edf_tables.proofs.Texts.{insert_record_text, insert_record_is}
use Rattle.edf_tables.proofs.Commits.{insert_survives}
use Rattle.edf_tables.proofs.Keeping.{write_refused}
use Rattle.edf_tables.proofs.Writing.{record_added_if}
use Rattle.edf_tables.proofs.SameText.{crash_of, runs_of}
use Rattle.edf_tables.proofs.write.insert_record.Goals as goal

pub returns-clause-added : goal.returns-clause-added
returns-clause-added g c clean =
    record_added_if (state g.S.Store c.args.conn.now) (state g.S.Store c.execute.new.self)
    c.args.recording c.args.start c.args.samples.now c.args.block.now c.execute.result
    (c.requires (omega (arith, c.execute.ensures.survives.clean)))
    (runs_of _ _ _ _ _ _ (rw (
      c.params-to_sql.ensures
          ∙ ap Int (to_z-of_z w64 c.args.recording c.ranges.recording),
      c.params-to_sql-2.ensures
          ∙ ap Int (to_z-of_z w64 c.args.start c.ranges.start),
      c.params-to_sql-3.ensures,
      c.params-to_sql-4.ensures,
    ) at (c.execute.ensures.runs clean)) refl)

pub returns-clause-refused : goal.returns-clause-refused
returns-clause-refused g c clean =
    write_refused _ _ (state g.S.Store c.args.conn.now) (state g.S.Store c.execute.new.self)
    c.execute.result (c.execute.ensures.runs clean)

pub returns-clause-survives : goal.returns-clause-survives
returns-clause-survives g c =
    insert_survives (state g.S.Store c.args.conn.now) (state g.S.Store c.execute.new.self)
    insert_record_text _ _ _ insert_record_is (λ clean. let was = c.requires clean in
    (was.schema, was.mode)) (crash_of _ _ _ _ _ c.execute.ensures.survives refl)
