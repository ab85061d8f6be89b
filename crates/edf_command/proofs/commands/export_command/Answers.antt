use Rattle.std.proofs.Common.{codes}
use Rattle.std.proofs.lemmas.Result.{IfOk-weaker}
use Rattle.clap.specs.Simple.{new_app}
use Rattle.edf_command.specs.Inside.Commands.{required_rule}
use Rattle.edf_command.proofs.Made.{arg_reads, told_reads}
use Rattle.edf_command.proofs.commands.export_command.Goals as goal

pub returns : goal.returns
returns c =
    let start = told_reads c.new.result c.about.result c.long_about.result c.after_help.result
    (new_app (codes "export")) _ _ _ (c.new.ensures.app, c.new.ensures.local)
    c.about.ensures c.long_about.ensures c.after_help.ensures in
    let one = arg_reads c.after_help.result c.in_ok-arg.field-0 _ c.required_value.result
    (required_rule (codes "STORE")) start c.required_value.ensures.local
    c.required_value.ensures.rule
    c.in_ok-arg.ensures in
    IfOk-weaker c.arg-2.result _ _ (λ r h.
    arg_reads c.in_ok-arg.field-0 r _ c.required_value-2.result (required_rule (codes "PLACE")) one
    c.required_value-2.ensures.local c.required_value-2.ensures.rule h) c.arg-2.ensures
