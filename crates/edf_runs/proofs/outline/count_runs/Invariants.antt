use Rattle.std.proofs.Common.{◌≡◌, ◌≤◌, List, map, take}
use Rattle.edf_fragment.specs.Fragment.{DataRecord}
use Rattle.edf_runs.proofs.RunCounts.{CountedRuns}
use Rattle.edf_runs.proofs.outline.count_runs.Given as goal

abbrev pub invariant-loop-start : goal.invariant-loop-start
invariant-loop-start l = record {
  few : l.count ≤ l.start-index;
  so_far : (records : List DataRecord) → map (λ (r : DataRecord). r.start) records ≡ l.fn.starts →
      CountedRuns l.fn.duration (take l.start-index records) l.count l.end;
}
