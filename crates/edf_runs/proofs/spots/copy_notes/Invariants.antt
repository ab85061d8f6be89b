use Rattle.std.proofs.Common.{◌≡◌, ◌++◌, take}
use Rattle.edf_runs.proofs.spots.copy_notes.Given as goal

abbrev pub invariant-loop-note : goal.invariant-loop-note
invariant-loop-note l = l.to.items ≡ l.initial.to.items ++ take l.note-index l.from
