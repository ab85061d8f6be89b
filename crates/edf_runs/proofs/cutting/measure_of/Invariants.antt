use Rattle.std.proofs.Common.{List, length}
use Rattle.edf_header.specs.Key.{Key}
use Rattle.edf_fragment.specs.Fragment.{DataRecord}
use Rattle.edf_runs.specs.Outline.{IsOutline}
use Rattle.edf_runs.proofs.MeasuredCut.{MeasuredSoFar}
use Rattle.edf_runs.proofs.cutting.measure_of.Given as goal

abbrev pub invariant-spots : goal.invariant-spots
invariant-spots l = (k : Key) (records : List DataRecord) → IsOutline k records l.outline →
    MeasuredSoFar l.window records l.spots l.measure

abbrev pub decreases-spots : goal.decreases-spots
decreases-spots l = length l.spots.starts.now
