use Rattle.edf_cli.specs.Output.{output_change}
use Rattle.edf_cli.specs.declared.status.Status.TheVariants.{Trouble}
use Rattle.edf_cli.proofs.Undone.{trouble-told}
use Rattle.edfruns_command.specs.Lines.{reread_line, unwritten_line}
use Rattle.edfruns_command.proofs.Splits.{says, some-behind, some-reread}
use Rattle.edfruns_command.proofs.split_command.print_stop.Goals as goal

pub returns-in-Output-clause-status : goal.returns-in-Output-clause-status
returns-in-Output-clause-status g c =
    trouble-told (output_change g.F.Output c.args.err.now c.print_unwritten.new.err)
    (unwritten_line c.in-Output.name.now) c.print_unwritten.result c.print_unwritten.ensures

pub returns-in-Output-clause-said : goal.returns-in-Output-clause-said
returns-in-Output-clause-said g c =
    says (output_change g.F.Output c.args.err.now c.print_unwritten.new.err)
    (unwritten_line c.in-Output.name.now) Trouble c.print_unwritten.result
    (some-behind c.in-Output.name.now 32 _) c.print_unwritten.ensures

pub returns-in-Reading-clause-status : goal.returns-in-Reading-clause-status
returns-in-Reading-clause-status g c =
    trouble-told (output_change g.F.Output c.args.err.now c.print_reread.new.err)
    (reread_line c.args.file.now c.in-Reading.fault) c.print_reread.result c.print_reread.ensures

pub returns-in-Reading-clause-said : goal.returns-in-Reading-clause-said
returns-in-Reading-clause-said g c =
    says (output_change g.F.Output c.args.err.now c.print_reread.new.err)
    (reread_line c.args.file.now c.in-Reading.fault) Trouble c.print_reread.result
    (some-reread c.args.file.now c.in-Reading.fault) c.print_reread.ensures
