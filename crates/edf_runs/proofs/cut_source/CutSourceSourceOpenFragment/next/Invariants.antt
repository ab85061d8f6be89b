use Rattle.std.proofs.Common.{[], length}
use Rattle.edf_canonical.specs.Source.{at}
use Rattle.edf_runs.specs.Inside.Selecting.{Passes}
use Rattle.edf_runs.proofs.cut_source.CutSourceSourceOpenFragment.next.Given as goal

abbrev pub invariant-skipped : goal.invariant-skipped
invariant-skipped g l = Passes g.R.Input
    (at l.initial.self l.initial.fragment l.initial.input) (at l.self l.fragment l.input) []

abbrev pub decreases-skipped : goal.decreases-skipped
decreases-skipped g l = length l.self.spots.starts.now
