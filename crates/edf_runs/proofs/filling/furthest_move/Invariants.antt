use Rattle.std.proofs.Common.{◌≡◌, ◌≤◌, drop}
use Rattle.edf_runs.specs.Inside.Filling.{furthest_from}
use Rattle.edf_runs.proofs.filling.furthest_move.Given as goal

abbrev pub invariant-loop-start : goal.invariant-loop-start
invariant-loop-start l = record {
  so_far : furthest_from l.parted.division.unit l.parted.first l.furthest
      (drop l.start-index l.parted.starts.now)
      ≡ furthest_from l.parted.division.unit l.parted.first 0 l.parted.starts.now;
  within : l.furthest ≤ l.most;
}
