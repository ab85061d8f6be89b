use Rattle.std.proofs.Common.{List, length}
use Rattle.edf_field.specs.Number.{duration_of}
use Rattle.edf_header.specs.Key.{Key}
use Rattle.edf_fragment.specs.Fragment.{DataRecord}
use Rattle.edf_runs.specs.Outline.{IsOutline}
use Rattle.edf_runs.proofs.RunsOfOutline.{ListedSoFar}
use Rattle.edf_runs.proofs.run_list.runs_of.Given as goal

abbrev pub invariant-spots : goal.invariant-spots
invariant-spots l = (k : Key) (records : List DataRecord) → IsOutline k records l.outline →
    ListedSoFar (duration_of k.duration) records l.spots l.runs.items

abbrev pub decreases-spots : goal.decreases-spots
decreases-spots l = length l.spots.starts.now
