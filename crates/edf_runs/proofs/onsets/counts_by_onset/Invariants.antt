use Rattle.std.proofs.Common.{◌≡◌, List, length, map}
use Rattle.edf_fragment.specs.Fragment.{DataRecord}
use Rattle.edf_runs.specs.Inside.Spreading.{spread}
use Rattle.edf_runs.proofs.OutlineByOnset.{CountedSoFar}
use Rattle.edf_runs.proofs.onsets.counts_by_onset.Given as goal

abbrev pub invariant-starts : goal.invariant-starts
invariant-starts l = (records : List DataRecord) →
    map (λ (r : DataRecord). r.start) records ≡ l.fn.starts →
    CountedSoFar (spread l.fn.notes records) l.later l.counts.items l.left

abbrev pub decreases-starts : goal.decreases-starts
decreases-starts l = length l.later
