use Rattle.std.proofs.Common.{arith, refl}
use Rattle.sqlite.specs.Held.{state}
use Rattle.sqlite.proofs.StateLemmas.{survives_weaker}
use Rattle.edf_tables.proofs.Creating.{first_if, first_crash}
use Rattle.edf_tables.proofs.Keeping.{write_refused}
use Rattle.edf_tables.proofs.File.{first_file, first_mode}
use Rattle.edf_tables.proofs.SameText.{crash_of, runs_of}
use Rattle.edf_tables.proofs.create.create_recording.Goals as goal

pub returns-clause-made : goal.returns-clause-made
returns-clause-made g c clean =
    first_if (state g.S.Store c.args.conn.now) (state g.S.Store c.execute.new.self) c.execute.result
    (c.requires (omega (arith, c.execute.ensures.survives.clean)))
    (runs_of _ _ _ _ _ _ (c.execute.ensures.runs clean) refl)

pub returns-clause-refused : goal.returns-clause-refused
returns-clause-refused g c clean =
    write_refused _ _ (state g.S.Store c.args.conn.now) (state g.S.Store c.execute.new.self)
    c.execute.result (c.execute.ensures.runs clean)

pub returns-clause-survives : goal.returns-clause-survives
returns-clause-survives g c =
    survives_weaker (state g.S.Store c.args.conn.now) (state g.S.Store c.execute.new.self) _ _
    (λ clean db. first_crash (state g.S.Store c.args.conn.now) db
    (c.requires (omega (arith, c.execute.ensures.survives.clean))))
    (crash_of _ _ _ _ _ c.execute.ensures.survives refl)

pub returns-clause-stays : goal.returns-clause-stays
returns-clause-stays g c clean =
    first_file (state g.S.Store c.args.conn.now) (state g.S.Store c.execute.new.self)
    c.execute.result (c.requires (omega (arith, c.execute.ensures.survives.clean)))
    (runs_of _ _ _ _ _ _ (c.execute.ensures.runs clean) refl)

pub returns-clause-mode : goal.returns-clause-mode
returns-clause-mode g c clean =
    first_mode (state g.S.Store c.args.conn.now) (state g.S.Store c.execute.new.self)
    c.execute.result (c.requires (omega (arith, c.execute.ensures.survives.clean)))
    (runs_of _ _ _ _ _ _ (c.execute.ensures.runs clean) refl)
