use Rattle.std.proofs.Common.{◌≡◌, ◌+◌, ◌≤◌, None, drop}
use Rattle.edf_runs.specs.Inside.Filling.{gaps_from, GapsWithin}
use Rattle.edf_runs.proofs.filling.count_gaps.Given as goal

abbrev pub invariant-loop-start : goal.invariant-loop-start
invariant-loop-start l = record {
  few : l.gaps ≤ l.start-index;
  so_far : l.gaps + gaps_from l.duration l.end (drop l.start-index l.starts)
      ≡ gaps_from l.duration None l.starts;
  short : GapsWithin l.longest l.duration l.end (drop l.start-index l.starts) →
      GapsWithin l.longest l.duration None l.starts;
}
