use Rattle.std.proofs.Common.{codes}
use Rattle.edf_command.proofs.Made.{several_rule}
use Rattle.edf_command.proofs.commands.files.Goals as goal

pub returns-clause-rule : goal.returns-clause-rule
returns-clause-rule c = several_rule c.required_value.result c.action.result c.num_args.result
    (codes "FILE") _ c.required_value.ensures.rule c.action.ensures c.num_args.ensures.0
    c.num_args.ensures.1
