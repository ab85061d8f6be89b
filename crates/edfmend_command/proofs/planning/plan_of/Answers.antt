use Rattle.std.proofs.Common.{◌≡◌, Option, arith, ap, sym, ◌∙◌, subst, true, false, append-nil}
use Rattle.edf_cli.specs.Opened.{OpensUpTo}
use Rattle.edf_runs.specs.declared.outline.Outline.{Outline}
use Rattle.edfmend_command.specs.Inside.{PlansStrictly}
use Rattle.edfmend_command.specs.Run.{IsToMend}
use Rattle.edfmend_command.proofs.Opened.{exactly, then-more}
use Rattle.edfmend_command.proofs.Readings.{asked, asked-or-bad, none-mended}
use Rattle.edfmend_command.proofs.planning.plan_of.Goals as goal
use Rattle.edfmend_command.proofs.planning.plan_of.Goals.{else-asks_nothing}
use Rattle.edfmend_command.proofs.planning.plan_of.Goals.{}
use Rattle.edfmend_command.proofs.planning.plan_of.Goals.{then-asks_nothing+in_ok-outline+in_default}

pub returns-in_err-measured-clause-trouble : goal.returns-in_err-measured-clause-trouble
returns-in_err-measured-clause-trouble g c =
    let bytes = g.I.Inputs.bytes c.args.inputs.now c.args.file.now in
    let to_mend : IsToMend bytes c.args.wanted.now = elim c.if-asks_nothing.branch [
      | then-asks_nothing+in_ok-outline+in_default w ↦
          asked-or-bad bytes c.args.wanted.now
          (subst (λ (plan : Option Outline). PlansStrictly bytes plan) w.in_default.is
          w.in_ok-outline.ensures.plan)
      | else-asks_nothing w ↦ asked bytes c.args.wanted.now (λ nothing.
          let e : false ≡ true = w.if-asks_nothing.ensures.1 nothing in cc)
    ] in
    none-mended bytes c.args.wanted.now c.from_residual-in_err-measured.result to_mend

pub returns-in_err-measured-clause-opened : goal.returns-in_err-measured-clause-opened
returns-in_err-measured-clause-opened g c =
    let before = g.I.Inputs.opened c.args.inputs.now in
    let mid = g.I.Inputs.opened c.if-asks_nothing.inputs in
    let once : OpensUpTo before mid c.args.file.now 1 = elim c.if-asks_nothing.branch [
      | then-asks_nothing+in_ok-outline+in_default w ↦
          exactly before mid c.args.file.now 1 1 (omega arith)
          (ap g.I.Inputs.opened w.inputs-is ∙ w.in_ok-outline.ensures.opened)
      | else-asks_nothing w ↦ exactly before mid c.args.file.now 0 1 (omega arith)
          (ap g.I.Inputs.opened w.inputs-is ∙ sym (append-nil before))
    ] in
    then-more before mid (g.I.Inputs.opened c.plan_leniently.new.inputs) c.args.file.now 1 1 2
    (omega arith) once c.in_err-measured.ensures.opened

pub returns-clause-opened : goal.returns-clause-opened
returns-clause-opened g c =
    let before = g.I.Inputs.opened c.args.inputs.now in
    let mid = g.I.Inputs.opened c.if-asks_nothing.inputs in
    let after = g.I.Inputs.opened c.plan_leniently.new.inputs in
    let once : OpensUpTo before mid c.args.file.now 1 = elim c.if-asks_nothing.branch [
      | then-asks_nothing+in_ok-outline+in_default w ↦
          exactly before mid c.args.file.now 1 1 (omega arith)
          (ap g.I.Inputs.opened w.inputs-is ∙ w.in_ok-outline.ensures.opened)
      | else-asks_nothing w ↦ exactly before mid c.args.file.now 0 1 (omega arith)
          (ap g.I.Inputs.opened w.inputs-is ∙ sym (append-nil before))
    ] in
    then-more before mid after c.args.file.now 1 1 2 (omega arith) once
    (exactly mid after c.args.file.now 1 1 (omega arith) c.in_ok-measured.ensures.opened)
