-- What clap's builders make of a command.
use Rattle.std.proofs.Common.{◌≡◌, ◌∙◌, ap, ap₂, true, false, ◌||◌, Option, Some, None}
use Rattle.std.specs.Option.{IsSomeAnd}
use Rattle.clap.specs.declared.builder.range.ValueRange.{ValueRange}
use Rattle.clap.specs.declared.builder.action.ArgAction.TheVariants.{Append}
use Rattle.clap.specs.Walk.{Rule, Text, rule_of}
use Rattle.clap.specs.Simple.{App, app_of, app_of_fields, new_app, on_top, with_rule}
use Rattle.clap.specs.declared.builder.command.Command.TheViews.{out-Command}
use Rattle.clap.specs.declared.builder.command.Command.TheOpen.{Command-F}
use Rattle.clap.specs.Built.{AddsArg}
use Rattle.clap.specs.declared.builder.arg.Arg.{Arg}
use Rattle.clap.specs.declared.builder.command.Command.{Command}
use Rattle.edf_command.specs.Inside.Commands.{Reads, required_rule}

-- one more argument
pub arg_reads : (old new : Command) (s : App) (a : Arg) (r : Rule) → Reads old s →
    a.global ≡ false → rule_of a ≡ r → AddsArg old a new → Reads new (with_rule s r)
arg_reads old new s a r was plain is h =
    (h.shape plain ∙ ap₂ with_rule was.0 is, h.globals ∙ ap₂ ◌||◌ was.1 plain)

-- the texts of a word's help change nothing that is read
pub told_reads : (a b d e : Command) (s : App) (about long after : _) → Reads a s
    → out-Command b ≡ record (out-Command a) { about = about }
    → out-Command d ≡ record (out-Command b) { long_about = long }
    → out-Command e ≡ record (out-Command d) { after_help = after }
    → Reads e s
told_reads a b d e s about long after was b_is d_is e_is =
    let all : out-Command e ≡ record (out-Command a) {
      about = about;
      long_about = long;
      after_help = after;
    } =
    e_is ∙ ap (λ (x : Command-F Command). record x { after_help = after }) (d_is
    ∙ ap (λ (x : Command-F Command). record x { long_about = long }) b_is) in
    (ap app_of_fields all ∙ was.0, ap (λ (x : Command-F Command). x.has_globals) all ∙ was.1)

-- the settings of the top command
pub top_reads : (a b v d e f g : Command) (name : Text) (bin about after : _) (version : _) →
    app_of a ≡ new_app name → (out-Command a).has_globals ≡ false
    → out-Command b ≡ record (out-Command a) { bin_name = bin }
    → out-Command v ≡ record (out-Command b) { version = Some version }
    → out-Command d ≡ record (out-Command v) { about = about }
    → out-Command e ≡ record (out-Command d) { after_help = after }
    → out-Command f ≡ record (out-Command e) { no_binary_name = true }
    → out-Command g ≡ record (out-Command f) { subcommand_required = true }
    → Reads g (on_top (λ s. record s {
      has_version = true;
      no_binary_name = true;
      subcommand_required = true;
    }) (new_app name))
top_reads a b v d e f g name bin about after version is plain b_is v_is d_is e_is f_is g_is =
    let all : out-Command g ≡ record (out-Command a) {
      bin_name = bin;
      version = Some version;
      about = about;
      after_help = after;
      no_binary_name = true;
      subcommand_required = true;
    } =
    g_is ∙ ap (λ (x : Command-F Command). record x { subcommand_required = true }) (f_is
    ∙ ap (λ (x : Command-F Command). record x { no_binary_name = true })
    (e_is ∙ ap (λ (x : Command-F Command). record x { after_help = after }) (d_is
    ∙ ap (λ (x : Command-F Command). record x { about = about })
    (v_is ∙ ap (λ (x : Command-F Command). record x { version = Some version }) b_is)))) in (
      ap app_of_fields all
          ∙ ap (on_top (λ s. record s {
            has_version = true;
            no_binary_name = true;
            subcommand_required = true;
          })) is,
      ap (λ (x : Command-F Command). x.has_globals) all
          ∙ plain,
    )

some_is : (o : Option ValueRange) (r : ValueRange) → IsSomeAnd o (λ y. y ≡ r) → o ≡ Some r
some_is None r h = absurd h
some_is (Some y) r h = ap Some h

-- several values in place of one
pub several_rule : (a b d : Arg) (id : Text) (r : ValueRange) → rule_of a ≡ required_rule id →
    b ≡ record a { action = Some Append } → d ≡ record b { num_vals = d.num_vals }
    → IsSomeAnd d.num_vals (λ y. y ≡ r) →
    rule_of d ≡ record (required_rule id) { action = Some Append; range = Some r }
several_rule a b d id r is b_is d_is range =
    let all : d ≡ record a { action = Some Append; num_vals = Some r } = d_is
    ∙ (λ i. record (b_is i) { num_vals = some_is d.num_vals r range i }) in
    ap rule_of all ∙ ap (λ (x : Rule). record x { action = Some Append; range = Some r }) is
