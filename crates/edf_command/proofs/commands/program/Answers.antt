use Rattle.edf_command.proofs.Made.{top_reads}
use Rattle.edf_command.proofs.commands.program.Goals as goal

pub returns : goal.returns
returns c = top_reads c.new.result c.in_ok-bin_name.field-0 c.version.result c.about.result
    c.after_help.result c.no_binary_name.result c.subcommand_required.result _ _ _ _ _
    c.new.ensures.app c.new.ensures.local
    c.in_ok-bin_name.ensures.0 c.version.ensures c.about.ensures c.after_help.ensures
    c.no_binary_name.ensures c.subcommand_required.ensures
