use Rattle.std.proofs.Common.{◌∙◌, ap, subst, refl, inl, inr}
use Rattle.std.proofs.lemmas.Result.{IfOk-weaker}
use Rattle.edf_command.specs.Lines.{refused_file_line}
use Rattle.edf_cli.specs.Status.{status_of_number}
use Rattle.edf_cli.specs.Output.{output_change, IsLinePrinted}
use Rattle.edf_cli.specs.declared.status.Status.{Status}
use Rattle.edf_cli.proofs.Puts.{nothing-gets, remarked}
use Rattle.edf_command.proofs.converting.convert.Goals as goal

pub returns-in_default-clause-converted : goal.returns-in_default-clause-converted
returns-in_default-clause-converted g c =
    inr (inr (
      refl,
      (
        nothing-gets (g.O.Output.contents c.args.out.now)
            (g.O.Output.failures c.args.out.now),
        c.print_memory.ensures,
      ),
    ))

pub returns-in-Ok-submit-clause-converted : goal.returns-in-Ok-submit-clause-converted
returns-in-Ok-submit-clause-converted g c = inl (record {
  from = _;
  to = _;
  receipt = c.in-Ok-submit.receipt;
  mid = c.submit.new.store;
  opened = c.in-Ok.ensures.reader;
  submitted = c.in-Ok-submit.ensures.submitted;
  stays = c.export_recording.ensures.stays;
  printed = c.export_recording.ensures.printed;
  exported = c.export_recording.ensures.exported;
})

pub returns-clause-converted : goal.returns-clause-converted
returns-clause-converted g c = inr (inl (record {
  from = _;
  to = _;
  refusal = c.in-Err.refusal;
  opened = c.in-Ok.ensures.reader;
  submitted = c.in-Err.ensures.submitted;
  said = λ spell is.
      let text = refused_file_line spell c.args.file.now c.in-Err.refusal in
      let printed = c.print_text-printed.ensures.printed text
      (IfOk-weaker c.refused_file_line.result _ _ (λ r line. line spell is)
      c.refused_file_line.ensures) in
      let IsSo : Status → Type 0 = λ wanted.
      IsLinePrinted (output_change g.F.Output c.args.err.now c.remark.new.self) text wanted
      c.print_text-printed.result
      in (
        nothing-gets (g.O.Output.contents c.args.out.now) (g.O.Output.failures c.args.out.now),
        subst IsSo (c.status_of_number-status.ensures ∙ ap status_of_number c.number.ensures)
            (remarked (g.F.Output) c.args.err.now c.print_text-printed.new.out c.remark.new.self
            (λ w. IsLinePrinted w text c.status_of_number-status.result c.print_text-printed.result)
            c.remark.ensures.contents c.remark.ensures.failures printed),
      );
}))
