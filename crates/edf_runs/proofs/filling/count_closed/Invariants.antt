use Rattle.std.proofs.Common.{◌≡◌, ◌+◌, ◌≤◌, drop}
use Rattle.std.specs.Prelude.{count_by}
use Rattle.edf_runs.specs.FillAnswers.{neighbours, is_closed}
use Rattle.edf_runs.proofs.FillCounting.{behind}
use Rattle.edf_runs.proofs.filling.count_closed.Given as goal

abbrev pub invariant-loop-start : goal.invariant-loop-start
invariant-loop-start l =
    let f = is_closed l.parted.duration l.parted.division.parts l.parted.division.unit
    l.parted.first in
    record {
      few : l.closed ≤ l.start-index;
      so_far : l.closed + count_by f (neighbours (behind l.before (drop l.start-index
          l.parted.starts.now))) ≡ count_by f (neighbours l.parted.starts.now);
    }
