-- What is told of annotations outside of all data records.
use Rattle.std.proofs.Common.{◌≡◌, ℕ, zero, suc, List, refl}
use Rattle.edf_cli.specs.Output.{OutputChange, IsWritten}
use Rattle.edf_cli.specs.declared.status.Status.{Status}
use Rattle.edf_cli.specs.declared.status.Status.TheVariants.{Done}
use Rattle.edfruns_command.specs.Canonical.{TellsOutside}
use Rattle.edfruns_command.specs.Lines.{outside_line}

pub tells-some : (err : OutputChange) (name : List ℕ) (count : ℕ) (status : Status) →
    ¬ (count ≡ 0) →
    IsWritten err (outside_line name count) Done status → TellsOutside err name count status
tells-some err name zero status some said = absurd (some refl)
tells-some err name (suc count) status some said = said
