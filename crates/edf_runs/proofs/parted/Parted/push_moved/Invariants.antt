use Rattle.std.proofs.Common.{◌≡◌, ◌++◌, List, take}
use Rattle.std.specs.List.{AllZip}
use Rattle.edf_tal.specs.Tal.{Annotation}
use Rattle.edf_runs.specs.Inside.Moving.{MovesNote}
use Rattle.edf_runs.specs.Inside.Stretching.{Rise}
use Rattle.edf_runs.proofs.parted.Parted.push_moved.Given as goal

abbrev pub invariant-loop-note : goal.invariant-loop-note
invariant-loop-note l = Rise l.self.duration 0 l.self.starts.now →
    (all : List Annotation) × AllZip (MovesNote l.self) (take l.note-index l.notes) all
    × (l.moved.items ≡ l.initial.moved.items ++ all)
