-- The program's words, before a command is run.
use Rattle.std.specs.Prelude.{◌≢◌, String, List, [], Option, Some, None, Result, Ok, Err, codes}
use Rattle.std.specs.Prelude.{if◌then◌else◌}
use Rattle.std.specs.Global.{Global}
use Rattle.std.specs.Str.{bytes_eq}
use Rattle.edf_command.specs.Arguments.{Request, Text, AreValues, WordsParseTo, WordsParseToNothing}
use Rattle.edf_command.specs.Arguments.Request.{take, list, export, convert}
use Rattle.edf_command.specs.declared.order.Order.{Order}
use Rattle.edf_cli.specs.Output.{OutputChange, Gets}
use Rattle.edf_cli.specs.Words.{IsCommandFaultPrinted}
use Rattle.edf_cli.specs.declared.status.Status.{Status}
use Rattle.edf_cli.specs.declared.words.CommandFault.{CommandFault}
use Rattle.edf_cli.specs.declared.words.CommandFault.TheVariants.{Memory}

-- the path of a store's file; `:memory:` has none
abbrev pub path_of : Text → Option Text
path_of store = if bytes_eq store (codes ":memory:") then None else Some store

-- the path of a request's store; `convert` has an empty store in memory, as `:memory:` is one
abbrev pub store_path : Request → Option Text
store_path (take store files) = path_of store
store_path (list store) = path_of store
store_path (export store place) = path_of store
store_path (convert file) = None

module _ (out err : OutputChange) where
  -- there is no command, and why is printed: the words ask for nothing, or memory ran out
  pub record IsNoCommand (words : List (String Global)) (status : Status) : Type 0 where
    pub fault : CommandFault
    pub printed : IsCommandFaultPrinted out err fault status
    pub nothing : fault ≢ Memory → AreValues words → WordsParseToNothing words

  -- the words parse to this command, where no word begins with `-`, and nothing is written; or
  -- there is no command
  abbrev pub IsCommandRead : List (String Global) → Result Order Status → Type 0
  IsCommandRead words (Ok command) = (AreValues words → WordsParseTo words command) × Gets out []
      × Gets err []
  IsCommandRead words (Err status) = IsNoCommand words status
