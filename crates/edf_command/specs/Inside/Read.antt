-- The order that `clap` reads from words.
use Rattle.std.specs.Prelude.{◌≡◌, ◌≢◌, String, List, Option, Result, IfOk, IfErr, IsErrAnd}
use Rattle.std.specs.Prelude.{option_map}
use Rattle.std.specs.Global.{Global}
use Rattle.edf_cli.specs.Words.{IsNoHelp, IsNoUsage}
use Rattle.edf_cli.specs.declared.words.CommandFault.{CommandFault}
use Rattle.edf_cli.specs.declared.words.CommandFault.TheVariants.{Memory}
use Rattle.edf_command.specs.Arguments.{AreValues, AskForHelp, AskForNoHelp, WordsParseToNothing}
use Rattle.edf_command.specs.Arguments.{request, meaning, texts}
use Rattle.edf_command.specs.declared.order.Order.{Order}

-- the result is no order where only a PLACE is wrong
pub record AreWordsRead (words : List (String Global)) (result : Result (Option Order) CommandFault)
    : Type 0 where
  pub reads : AreValues words →
      IfOk result (λ order. option_map meaning order ≡ request (texts words))
  pub refuses : AreValues words → IfErr result (λ fault. fault ≢ Memory → WordsParseToNothing words)
  pub usage : AskForNoHelp words → IfErr result IsNoHelp
  pub help : AskForHelp words → IsErrAnd result IsNoUsage
