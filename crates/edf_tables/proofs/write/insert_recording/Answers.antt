use Rattle.std.proofs.Common.{arith, ◌∙◌, refl, w64}
use Rattle.std.proofs.lemmas.Int.{to_z-of_z}
use Rattle.sqlite.specs.Held.{state}
use Rattle.edf_tables.proofs.Texts.{insert_recording_text, insert_recording_is}
use Rattle.edf_tables.proofs.Commits.{insert_survives}
use Rattle.edf_tables.proofs.Keeping.{on_err, write_refused}
use Rattle.edf_tables.proofs.Writing.{recording_added}
use Rattle.edf_tables.proofs.SameText.{crash_of, runs_of}
use Rattle.edf_tables.proofs.write.insert_recording.Goals as goal

pub returns-clause-added : goal.returns-clause-added
returns-clause-added g c clean =
    let all = recording_added (state g.S.Store c.args.conn.now) (state g.S.Store c.execute.new.self)
    c.args.identity.now _ (c.requires (omega (arith, c.execute.ensures.survives.clean)))
    (runs_of _ _ _ _ _ _ (rw c.params-to_sql.ensures at (c.in_ok-execute.ensures.runs clean))
    refl) in
    let fits = c.last_insert_rowid.type_inv in (
      all.0,
      to_z-of_z w64 c.last_insert_rowid.result (record { sfits = fits })
          ∙ c.last_insert_rowid.ensures ∙ all.1,
    )

pub returns-clause-survives : goal.returns-clause-survives
returns-clause-survives g c =
    insert_survives (state g.S.Store c.args.conn.now) (state g.S.Store c.execute.new.self)
    insert_recording_text _ _ _ insert_recording_is (λ clean. let was = c.requires clean in
    (was.schema, was.mode)) (crash_of _ _ _ _ _ c.execute.ensures.survives refl)

pub returns-in_err-execute-clause-survives : goal.returns-in_err-execute-clause-survives
returns-in_err-execute-clause-survives g c =
    insert_survives (state g.S.Store c.args.conn.now) (state g.S.Store c.execute.new.self)
    insert_recording_text _ _ _ insert_recording_is (λ clean. let was = c.requires clean in
    (was.schema, was.mode)) (crash_of _ _ _ _ _ c.execute.ensures.survives refl)

pub returns-in_err-execute-clause-refused : goal.returns-in_err-execute-clause-refused
returns-in_err-execute-clause-refused g c clean =
    on_err c.from_residual.result (write_refused _ _ (state g.S.Store c.args.conn.now)
    (state g.S.Store c.execute.new.self) _ (c.in_err-execute.ensures.runs clean))
