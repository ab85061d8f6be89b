use Rattle.std.proofs.Common.{All, take}
use Rattle.edf_header.specs.Key.{MayStart}
use Rattle.edf_runs.specs.declared.run.Run.{Run}
use Rattle.edfruns_command.proofs.split_command.undated_run.Given as goal

abbrev pub invariant-loop-at : goal.invariant-loop-at
invariant-loop-at l = All (λ (run : Run). MayStart l.listing.identity run.first)
    (take l.at l.listing.runs.items)
