use Rattle.std.proofs.Common.{List, ℕ, [], ◌∙◌, sym, subst}
use Rattle.std.specs.Prelude.{Option}
use Rattle.std.proofs.KnownBytes.{Keeps-refl, Appends-nil}
use Rattle.edf_cli.specs.Output.{output_change}
use Rattle.edf_cli.specs.declared.status.Status.TheVariants.{Done, Refused}
use Rattle.edf_cli.proofs.Undone.{trouble-undone, trouble-told}
use Rattle.edf_runs.specs.Outline.{ReadsOutline}
use Rattle.edf_runs.specs.Twice.{IsFilledOut}
use Rattle.edfruns_command.specs.Filling.{IsFillOut}
use Rattle.edfruns_command.proofs.Answered.{opened-again, opened-first, opened-twice}
use Rattle.edfruns_command.proofs.Answered.{opened-refused, file-undone}
use Rattle.edfruns_command.proofs.Statuses.{by-status, by-fault, unsuccessful}
use Rattle.edfruns_command.proofs.fill_command.fill_file.Goals as goal

pub returns-in-Err-clause-written : goal.returns-in-Err-clause-written
returns-in-Err-clause-written g c =
    let out = g.O.Output.contents c.args.out.now in
    let bytes = g.I.Inputs.bytes c.args.inputs.now c.args.file.now in
    by-fault (λ status. IsFillOut (output_change g.O.Output c.args.out.now c.args.out.now) bytes
    c.args.limits status)
    (output_change g.F.Output c.args.err.now c.refuse.new.err) bytes c.args.file.now
    c.in-Err.fault c.refuse.result c.in-Err.ensures.answer c.refuse.ensures
    (λ met is. Keeps-refl out) ([], Appends-nil out)

pub returns-in-Err-clause-opened : goal.returns-in-Err-clause-opened
returns-in-Err-clause-opened g c = opened-refused _ _ _ _ c.in-Err.ensures.opened
    (file-undone _ _ _ _ c.refuse.ensures)

pub returns-in-Err-fill-clause-written : goal.returns-in-Err-fill-clause-written
returns-in-Err-fill-clause-written g c =
    let out = g.O.Output.contents c.args.out.now in
    by-status (λ status. IsFillOut (output_change g.O.Output c.args.out.now c.args.out.now)
    (g.I.Inputs.bytes c.args.inputs.now c.args.file.now) c.args.limits status) Refused c.refuse_fill.result
    c.refuse_fill.ensures (λ is. Keeps-refl out) ([], Appends-nil out)

pub returns-in-Err-fill-clause-opened : goal.returns-in-Err-fill-clause-opened
returns-in-Err-fill-clause-opened g c = opened-first _ _ _ _ c.in-Ok.ensures.opened
    (unsuccessful _ c.refuse_fill.ensures)

pub returns-in-Ok-write_again-clause-written : goal.returns-in-Ok-write_again-clause-written
returns-in-Ok-write_again-clause-written g c =
    let answer = c.in-Ok.ensures.answer in
    let same = c.in-Ok.ensures.same c.args.file.now in
    let before = g.O.Output.contents c.args.out.now in
    let after = g.O.Output.contents c.write_again.new.out in
    let is = subst (λ (b : Option (List ℕ)). IsFilledOut c.args.limits b b before after) same
    (c.in-Ok-write_again.ensures.written c.args.limits answer.0
    (subst (λ (b : Option (List ℕ)). ReadsOutline b answer.0 c.in-Ok.outline) (sym same)
    answer.1) c.in-Ok-fill.ensures.filled c.in-Ok-fill.ensures.allowed) in
    by-status (λ status. IsFillOut (output_change g.O.Output c.args.out.now c.write_again.new.out)
    (g.I.Inputs.bytes c.args.inputs.now c.args.file.now) c.args.limits status) Done c.print_filled.result
    c.print_filled.ensures (λ done. is) (is.file, is.wrote)

pub returns-in-Ok-write_again-clause-opened : goal.returns-in-Ok-write_again-clause-opened
returns-in-Ok-write_again-clause-opened g c =
    opened-twice _ _ _ _ _ c.in-Ok.ensures.opened c.in-Ok-write_again.ensures.opened

pub returns-in-Ok-write_again-clause-same : goal.returns-in-Ok-write_again-clause-same
returns-in-Ok-write_again-clause-same g c =
    λ name. c.in-Ok-write_again.ensures.same name ∙ c.in-Ok.ensures.same name

pub returns-clause-written : goal.returns-clause-written
returns-clause-written g c =
    subst (IsFillOut (output_change g.O.Output c.args.out.now c.write_again.new.out)
    (g.I.Inputs.bytes c.args.inputs.now c.args.file.now) c.args.limits)
    (sym (trouble-told _ _ _ c.refuse_canonical.ensures)) c.in-Err-write_again.ensures.stopped

pub returns-clause-opened : goal.returns-clause-opened
returns-clause-opened g c = opened-again _ _ _ _ _ c.in-Ok.ensures.opened
    c.in-Err-write_again.ensures.opened (trouble-undone _ _ _ c.refuse_canonical.ensures)

pub returns-clause-same : goal.returns-clause-same
returns-clause-same g c =
    λ name. c.in-Err-write_again.ensures.same name ∙ c.in-Ok.ensures.same name
