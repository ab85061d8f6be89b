-- The command line of the program, as `clap` reads it: what the builders of `commands` make.
use Rattle.std.specs.Prelude.{◌≡◌, true, false, Some, codes}
use Rattle.clap.specs.Lexer.{usize_max}
use Rattle.clap.specs.Walk.{Rule, Text}
use Rattle.clap.specs.Simple.{App, app_of, new_app, new_rule, on_top, with_rule, with_subcommand}
use Rattle.clap.specs.declared.builder.action.ArgAction.TheVariants.{Append}
use Rattle.clap.specs.declared.builder.command.Command.{Command}
use Rattle.clap.specs.declared.builder.command.Command.TheViews.{out-Command}

-- a value that must be given
abbrev pub required_rule : Text → Rule
required_rule id = record (new_rule id) { required = true }

-- one file or more
abbrev pub files_rule : Rule
files_rule = record (required_rule (codes "FILE")) {
  action = Some Append;
  range = Some (record { start_inclusive = 1; end_inclusive = usize_max });
}

abbrev pub take_app : App
take_app = with_rule (with_rule (new_app (codes "take")) (required_rule (codes "STORE"))) files_rule

abbrev pub list_app : App
list_app = with_rule (new_app (codes "list")) (required_rule (codes "STORE"))

abbrev pub export_app : App
export_app = with_rule (with_rule (new_app (codes "export")) (required_rule (codes "STORE")))
    (required_rule (codes "PLACE"))

abbrev pub convert_app : App
convert_app = with_rule (new_app (codes "convert")) (required_rule (codes "FILE"))

abbrev pub edfstore_top : App
edfstore_top = on_top (λ s. record s {
  has_version = true;
  no_binary_name = true;
  subcommand_required = true;
}) (new_app (codes "edfstore"))

abbrev pub edfstore_app : App
edfstore_app = with_subcommand (with_subcommand
    (with_subcommand (with_subcommand edfstore_top take_app.top) list_app.top) export_app.top)
    convert_app.top

-- `clap` reads the command as this, and no argument of it is global
abbrev pub Reads : Command → App → Type 0
Reads c a = (app_of c ≡ a) × ((out-Command c).has_globals ≡ false)
