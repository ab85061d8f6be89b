use Rattle.edf_command.specs.Inside.Commands.{edfstore_top, convert_app, export_app}
use Rattle.edf_command.specs.Inside.Commands.{list_app, take_app}
use Rattle.edf_command.proofs.commands.edfstore_command.Goals as goal

pub returns : goal.returns
returns c =
    let one = c.in_ok-takes.ensures edfstore_top take_app c.in_ok-program.ensures
    c.take_command.ensures in
    let two = c.in_ok-lists.ensures _ list_app one c.list_command.ensures in
    let three = c.in_ok-exports.ensures _ export_app two c.export_command.ensures in
    c.with_word-4.ensures _ convert_app three c.convert_command.ensures
