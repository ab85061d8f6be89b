use Rattle.std.proofs.Common.{◌∙◌, inr}
use Rattle.edf_cli.specs.Output.{output_change}
use Rattle.edf_cli.proofs.Puts.{nothing-gets}
use Rattle.edfruns_command.specs.Listed.{file_label}
use Rattle.edfruns_command.proofs.Answered.{refused}
use Rattle.edfruns_command.proofs.Listed.{sent}
use Rattle.edfruns_command.proofs.list_command.list_file.Goals as goal

pub returns-in-Err-clause-listed : goal.returns-in-Err-clause-listed
returns-in-Err-clause-listed g c =
    inr (refused (output_change g.O.Output c.args.out.now c.args.out.now)
    (output_change g.F.Output c.args.err.now c.refuse.new.err)
    (g.I.Inputs.bytes c.args.inputs.now c.args.file.now) c.args.file.now c.in-Err.fault
    c.refuse.result
    (nothing-gets (g.O.Output.contents c.args.out.now) (g.O.Output.failures c.args.out.now))
    c.in-Err.ensures.answer c.refuse.ensures)

pub returns-in-Ok-text_of-clause-listed : goal.returns-in-Ok-text_of-clause-listed
returns-in-Ok-text_of-clause-listed g c =
    sent (output_change g.O.Output c.args.out.now c.send_lines.new.out)
    (output_change g.F.Output c.args.err.now c.send_lines.new.err)
    (g.I.Inputs.bytes c.args.inputs.now c.args.file.now)
    (file_label c.args.several c.args.file.now) c.args.file.now
    c.as_slice.result.now c.send_lines.result
    (record {
      listing = c.in-Ok.listing;
      has = c.in-Ok.ensures.answer;
      told = λ spell is. c.as_slice.ensures.value ∙ c.in-Ok-text_of.ensures spell is;
    })
    c.send_lines.ensures

pub returns-clause-listed : goal.returns-clause-listed
returns-clause-listed g c =
    inr (inr (
      nothing-gets (g.O.Output.contents c.args.out.now) (g.O.Output.failures c.args.out.now),
      c.print_memory.ensures,
    ))
