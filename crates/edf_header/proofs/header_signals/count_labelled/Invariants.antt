use Rattle.std.proofs.Common.{◌≡◌, ◌≤◌, length, take}
use Rattle.edf_header.specs.Signal.{labelled}
use Rattle.edf_header.proofs.header_signals.count_labelled.Given as goal

abbrev pub invariant-loop-i : goal.invariant-loop-i
invariant-loop-i l = (l.count ≡ length (labelled (take l.i l.signals)))
    × (l.count ≤ l.i)
