-- What private functions do.
use Rattle.std.specs.Prelude.{List, ℕ, Bool}
use Rattle.edf_header.specs.Key.{Key}
use Rattle.edf_fragment.specs.Fragment.{DataRecord}
use Rattle.edf_cli.specs.Output.{OutputChange, IsWritten}
use Rattle.edf_cli.specs.Text.{memory_line}
use Rattle.edf_cli.specs.declared.status.Status.{Status}
use Rattle.edf_cli.specs.declared.status.Status.TheVariants.{Refused, Trouble}
use Rattle.edf_runs.specs.declared.crowded_fault.CrowdedFault.{CrowdedFault}
use Rattle.edf_runs.specs.declared.crowded_fault.CrowdedFault.TheVariants as fault
use Rattle.edfruns_command.specs.Canonical.{HasCrowded}
use Rattle.edfruns_command.specs.Lines.{crowded_line}
pub use Rattle.edf_cli.specs.Opened.{OpensUpTo}

-- By onset a data record has too many annotations, or memory ran out.
abbrev pub IsTooCrowded : Bool → Key → List DataRecord → CrowdedFault → Type 0
IsTooCrowded by_onset k records (fault.Crowded number) = HasCrowded by_onset k records number
IsTooCrowded by_onset k records fault.Memory = Unit {0}

-- A line says so.
abbrev pub IsCrowdedSaid : OutputChange → List ℕ → CrowdedFault → Status → Type 0
IsCrowdedSaid err name (fault.Crowded number) status =
    IsWritten err (crowded_line number) Refused status
IsCrowdedSaid err name fault.Memory status = IsWritten err (memory_line name) Trouble status
