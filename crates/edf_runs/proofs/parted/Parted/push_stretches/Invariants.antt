use Rattle.std.proofs.Common.{◌≡◌, ◌++◌, drop}
use Rattle.edf_runs.specs.Inside.Moving.{stretch_notes}
use Rattle.edf_runs.proofs.parted.Parted.push_stretches.Given as goal

abbrev pub invariant-loop-start : goal.invariant-loop-start
invariant-loop-start l =
    l.initial.notes.items ++ stretch_notes l.self 0 l.self.starts.now
    ≡ l.notes.items ++ stretch_notes l.self l.next (drop l.start-index l.self.starts.now)
