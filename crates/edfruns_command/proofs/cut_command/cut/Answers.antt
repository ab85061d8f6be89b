use Rattle.std.proofs.Common.{◌≡◌, List, ℕ, ◌∙◌, sym, subst, inl, inr}
use Rattle.std.specs.Prelude.{Option, ◌⊎◌}
use Rattle.std.specs.Io.KnownBytes.{Keeps}
use Rattle.std.proofs.KnownBytes.{Keeps-refl}
use Rattle.edf_cli.specs.Output.{output_change}
use Rattle.edf_cli.specs.declared.status.Status.TheVariants.{Refused}
use Rattle.edf_cli.proofs.Undone.{trouble-undone, trouble-told}
use Rattle.edf_runs.specs.CutFiles.{IsCutPlan, IsCutWritten, IsCutUnwritten}
use Rattle.edf_runs.specs.declared.fault.WriteFault.TheVariants.{Memory}
use Rattle.edf_runs.specs.Outline.{IsOutline}
use Rattle.edf_runs.specs.declared.outline.Outline.{Outline}
use Rattle.edfruns_command.specs.Filling.{IsCutOut}
use Rattle.edfruns_command.proofs.Answered.{opened-again, opened-first, opened-twice}
use Rattle.edfruns_command.proofs.Answered.{opened-refused, file-undone}
use Rattle.edfruns_command.proofs.CutOut.{none-cut, wrote-cut, stopped-cut, unbegun-cut}
use Rattle.edfruns_command.proofs.Statuses.{by-status, by-fault, unsuccessful}
use Rattle.edfruns_command.proofs.cut_command.cut.Goals as goal

-- ---- the file has no outline

pub returns-in-Err-clause-written : goal.returns-in-Err-clause-written
returns-in-Err-clause-written g c =
    let out = g.O.Output.contents c.args.out.now in
    let bytes = g.I.Inputs.bytes c.args.inputs.now c.args.file.now in
    by-fault (IsCutOut (output_change g.O.Output c.args.out.now c.args.out.now) bytes
    c.args.time.0 c.args.time.1) (output_change g.F.Output c.args.err.now c.refuse.new.err) bytes
    c.args.file.now c.in-Err.fault c.refuse.result c.in-Err.ensures.answer c.refuse.ensures
    (λ met is. (Keeps-refl out, inl (c.in-Err.fault, met, is)))
    (λ all k records known is. inl (Keeps-refl out))

pub returns-in-Err-clause-opened : goal.returns-in-Err-clause-opened
returns-in-Err-clause-opened g c = opened-refused _ _ _ _ c.in-Err.ensures.opened
    (file-undone _ _ _ _ c.refuse.ensures)

-- ---- it has no data record of the time, or memory ran out

pub returns-in-Ok-None-clause-written : goal.returns-in-Ok-None-clause-written
returns-in-Ok-None-clause-written g c =
    let out = g.O.Output.contents c.args.out.now in
    let w = output_change g.O.Output c.args.out.now c.args.out.now in
    let bytes = g.I.Inputs.bytes c.args.inputs.now c.args.file.now in
    let one = c.in-Ok.ensures.answer in
    by-status (IsCutOut w bytes c.args.time.0 c.args.time.1) Refused c.print_none.result
    c.print_none.ensures
    (λ is. (
      Keeps-refl out,
      inr (none-cut w bytes one.0 c.in-Ok.outline one.1 c.args.time.0 c.args.time.1
          (subst (IsCutPlan c.in-Ok.outline c.args.time.0 c.args.time.1) c.in-Ok-None.field-0-is
          c.in-Ok-None.ensures)),
    ))
    (λ all k records known is. inl (Keeps-refl out))

pub returns-in-Ok-None-clause-opened : goal.returns-in-Ok-None-clause-opened
returns-in-Ok-None-clause-opened g c = opened-first _ _ _ _ c.in-Ok.ensures.opened
    (unsuccessful _ c.print_none.ensures)

pub returns-in-Err-plan_cut-clause-written : goal.returns-in-Err-plan_cut-clause-written
returns-in-Err-plan_cut-clause-written g c =
    let out = g.O.Output.contents c.args.out.now in
    subst (IsCutOut (output_change g.O.Output c.args.out.now c.args.out.now)
    (g.I.Inputs.bytes c.args.inputs.now c.args.file.now) c.args.time.0 c.args.time.1)
    (sym (trouble-told _ _ _ c.print_memory.ensures))
    (λ all k records known is. inl (Keeps-refl out))

pub returns-in-Err-plan_cut-clause-opened : goal.returns-in-Err-plan_cut-clause-opened
returns-in-Err-plan_cut-clause-opened g c = opened-first _ _ _ _ c.in-Ok.ensures.opened
    (trouble-undone _ _ _ c.print_memory.ensures)

-- ---- the data records went out

pub returns-in-Ok-write_again-clause-written : goal.returns-in-Ok-write_again-clause-written
returns-in-Ok-write_again-clause-written g c =
    let answer = c.in-Ok.ensures.answer in
    let plan = subst (IsCutPlan c.in-Ok.outline c.args.time.0 c.args.time.1) c.in-Ok-Some.field-0-is
    c.in-Ok-Some.ensures in
    let one = answer.1 in
    let key = one.layout.key in
    let before = g.O.Output.contents c.args.out.now in
    let after = g.O.Output.contents c.write_again.new.out in
    let mine = subst (λ (o : Outline). IsOutline key one.records o) (sym plan.0) one.is_outline in
    let again = c.in-Ok-write_again.ensures.written key one.records mine in
    wrote-cut (output_change g.O.Output c.args.out.now c.write_again.new.out)
    (g.I.Inputs.bytes c.args.inputs.now c.args.file.now) answer.0 c.in-Ok.outline one
    c.args.time.0 c.args.time.1 c.in-Ok-Some.cut plan again.0 again.1
    (subst (λ (b : Option (List ℕ)). IsCutWritten b again.0 before after c.in-Ok-Some.cut key
    one.records again.1) (c.in-Ok.ensures.same c.args.file.now) again.2)

pub returns-in-Ok-write_again-clause-opened : goal.returns-in-Ok-write_again-clause-opened
returns-in-Ok-write_again-clause-opened g c =
    opened-twice _ _ _ _ _ c.in-Ok.ensures.opened c.in-Ok-write_again.ensures.opened

pub returns-in-Ok-write_again-clause-same : goal.returns-in-Ok-write_again-clause-same
returns-in-Ok-write_again-clause-same g c =
    λ name. c.in-Ok-write_again.ensures.same name ∙ c.in-Ok.ensures.same name

-- ---- they did not, or not all

pub returns-clause-written : goal.returns-clause-written
returns-clause-written g c =
    let one = c.in-Ok.ensures.answer in
    let w = output_change g.O.Output c.args.out.now c.write_again.new.out in
    let bytes = g.I.Inputs.bytes c.args.inputs.now c.args.file.now in
    let cut = c.in-Ok-Some.cut in
    let plan = subst (IsCutPlan c.in-Ok.outline c.args.time.0 c.args.time.1) c.in-Ok-Some.field-0-is
    c.in-Ok-Some.ensures in
    let fault = c.in-Err-write_again.fault in
    let stopped = subst (λ (b : Option (List ℕ)). (Keeps w.before w.after × (fault ≡ Memory))
    ⊎ IsCutUnwritten b w.before w.after cut fault) (c.in-Ok.ensures.same c.args.file.now)
    c.in-Err-write_again.ensures.stopped in
    by-status (IsCutOut w bytes c.args.time.0 c.args.time.1) Refused c.refuse_cut.result
    c.refuse_cut.ensures.status
    (λ is.
    let lacks = unbegun-cut w bytes one.0 c.in-Ok.outline one.1 c.args.time.0 c.args.time.1 cut
    plan fault stopped (c.refuse_cut.ensures.refused is) in
    (lacks.0, inr lacks.1))
    (stopped-cut w bytes one.0 c.in-Ok.outline one.1 c.args.time.0 c.args.time.1 cut plan fault
    stopped)

pub returns-clause-opened : goal.returns-clause-opened
returns-clause-opened g c = opened-again _ _ _ _ _ c.in-Ok.ensures.opened
    c.in-Err-write_again.ensures.opened (unsuccessful _ c.refuse_cut.ensures.status)

pub returns-clause-same : goal.returns-clause-same
returns-clause-same g c =
    λ name. c.in-Err-write_again.ensures.same name ∙ c.in-Ok.ensures.same name
