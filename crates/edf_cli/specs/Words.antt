-- Faults of command lines, and what is printed for them.
use Rattle.std.specs.Prelude.{ℕ, List, [], Bool, true, false, codes, string_bytes}
use Rattle.clap.specs.declared.error.kind.ErrorKind.{ErrorKind}
use Rattle.clap.specs.declared.error.kind.ErrorKind.TheVariants.{DisplayHelp, DisplayVersion}
use Rattle.edf_cli.specs.Output.{OutputChange, Gets, IsWritten, Explains}
use Rattle.edf_cli.specs.Text.{memory_line}
use Rattle.edf_cli.specs.declared.status.Status.{Status}
use Rattle.edf_cli.specs.declared.status.Status.TheVariants.{Done, Usage, Trouble}
use Rattle.edf_cli.specs.declared.words.CommandFault.{CommandFault}
use Rattle.edf_cli.specs.declared.words.CommandFault.TheVariants as fault

-- the fault has no text for standard output
abbrev pub IsNoHelp : CommandFault → Type 0
IsNoHelp (fault.Help _) = ⊥
IsNoHelp _ = Unit {0}

-- the fault has no text for standard error
abbrev pub IsNoUsage : CommandFault → Type 0
IsNoUsage (fault.Usage _) = ⊥
IsNoUsage _ = Unit {0}

-- the words were wrong or memory ran out: neither help nor the version was asked for
abbrev pub is_mistake : ErrorKind → Bool
is_mistake DisplayHelp = false
is_mistake DisplayVersion = false
is_mistake _ = true

-- there is no memory for the words
abbrev pub command_memory_line : List ℕ
command_memory_line = memory_line (codes "command")

-- help goes to `out`; else to `err` goes why the words ask for nothing, or that memory ran out
abbrev pub IsCommandFaultPrinted : OutputChange → OutputChange → CommandFault → Status → Type 0
IsCommandFaultPrinted out err (fault.Help text) status =
    IsWritten out (string_bytes text) Done status
    × Gets err []
IsCommandFaultPrinted out err (fault.Usage text) status =
    Explains out err (string_bytes text) Usage status
IsCommandFaultPrinted out err fault.Memory status =
    Explains out err command_memory_line Trouble status
