use Rattle.std.proofs.Common.{inl, inr, sym, subst, ◌∙◌, arith, true≢false}
use Rattle.sqlite.specs.Held.{state}
use Rattle.edf_tables.specs.Schema.{HasBoth}
use Rattle.sqlite.specs.State.{HasCleanDisk}
use Rattle.edf_tables.proofs.File.{file_then}
use Rattle.edf_tables.proofs.Tables.{after_first, both_made, first_survives, second_survives}
use Rattle.edf_tables.proofs.create.create_tables.Goals as goal

pub create_recording-requires : goal.create_recording-requires
create_recording-requires g c clean = elim (c.requires clean) [
  | inl none ↦ inl none
  | inr rest ↦ elim rest [
    | inl one ↦ inr one
    | inr both ↦
        absurd (true≢false
        (sym (c.has_both.ensures.1 (subst HasBoth (sym c.schema.ensures.value) both))
        ∙ c.if-has_both.false))
  ]
]

pub create_records-requires : goal.create_records-requires
create_records-requires g c clean = after_first _ _ (c.in_ok-create_recording.ensures.made clean)

pub returns-in_err-create_recording-clause-there : goal.returns-in_err-create_recording-clause-there
returns-in_err-create_recording-clause-there g c both =
    absurd (true≢false (sym (c.has_both.ensures.1 (subst HasBoth (sym c.schema.ensures.value) both))
    ∙ c.if-has_both.false))

pub returns-in_err-create_recording-clause-stays : goal.returns-in_err-create_recording-clause-stays
returns-in_err-create_recording-clause-stays g c = c.create_recording.ensures.stays

pub returns-in_err-create_recording-clause-survives :
    goal.returns-in_err-create_recording-clause-survives
returns-in_err-create_recording-clause-survives g c =
    first_survives (state g.S.Store c.args.conn.now) (state g.S.Store c.create_recording.new.conn)
    c.create_recording.ensures.survives

pub returns-in_err-create_records-clause-there : goal.returns-in_err-create_records-clause-there
returns-in_err-create_records-clause-there g c both =
    absurd (true≢false (sym (c.has_both.ensures.1 (subst HasBoth (sym c.schema.ensures.value) both))
    ∙ c.if-has_both.false))

pub returns-in_err-create_records-clause-stays : goal.returns-in_err-create_records-clause-stays
returns-in_err-create_records-clause-stays g c clean =
    let mid = state g.S.Store c.create_recording.new.conn in
    let early : HasCleanDisk mid = omega (arith, c.create_records.ensures.survives.clean) in
    file_then (state g.S.Store c.args.conn.now) mid (state g.S.Store c.create_records.new.conn)
    (c.create_recording.ensures.stays early)
    (inr (inl (c.in_ok-create_recording.ensures.made early)))
    (c.in_ok-create_recording.ensures.mode early) (c.create_records.ensures.stays clean)

pub returns-in_err-create_records-clause-survives :
    goal.returns-in_err-create_records-clause-survives
returns-in_err-create_records-clause-survives g c =
    second_survives (state g.S.Store c.args.conn.now) (state g.S.Store c.create_recording.new.conn)
    (state g.S.Store c.create_records.new.conn) c.in_ok-create_recording.ensures.made
    c.create_recording.ensures.survives c.create_records.ensures.survives

pub returns-clause-there : goal.returns-clause-there
returns-clause-there g c both =
    absurd (true≢false (sym (c.has_both.ensures.1 (subst HasBoth (sym c.schema.ensures.value) both))
    ∙ c.if-has_both.false))

pub returns-clause-made : goal.returns-clause-made
returns-clause-made g c clean =
    both_made _ _ _ (c.in_ok-create_recording.ensures.made
    (omega (arith, c.create_records.ensures.survives.clean)))
    (c.in_ok-create_records.ensures.made clean)

pub returns-clause-stays : goal.returns-clause-stays
returns-clause-stays g c clean =
    let mid = state g.S.Store c.create_recording.new.conn in
    let early : HasCleanDisk mid = omega (arith, c.create_records.ensures.survives.clean) in
    file_then (state g.S.Store c.args.conn.now) mid (state g.S.Store c.create_records.new.conn)
    (c.create_recording.ensures.stays early)
    (inr (inl (c.in_ok-create_recording.ensures.made early)))
    (c.in_ok-create_recording.ensures.mode early) (c.create_records.ensures.stays clean)

pub returns-clause-mode : goal.returns-clause-mode
returns-clause-mode g c clean = c.in_ok-create_records.ensures.mode clean
    ∙ c.in_ok-create_recording.ensures.mode (omega (arith, c.create_records.ensures.survives.clean))

pub returns-clause-survives : goal.returns-clause-survives
returns-clause-survives g c =
    second_survives (state g.S.Store c.args.conn.now) (state g.S.Store c.create_recording.new.conn)
    (state g.S.Store c.create_records.new.conn) c.in_ok-create_recording.ensures.made
    c.create_recording.ensures.survives c.create_records.ensures.survives
