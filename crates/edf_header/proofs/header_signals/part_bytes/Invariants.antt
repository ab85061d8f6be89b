use Rattle.std.proofs.Common.{◌≡◌, ◌+◌, ◌*◌, ◌≤◌, take}
use Rattle.edf_header.specs.Signal.{labelled, ordinary, samples_in_all}
use Rattle.edf_header.proofs.header_signals.part_bytes.Given as goal

abbrev pub invariant-loop-i : goal.invariant-loop-i
invariant-loop-i l =
    (l.ordinary ≡ 2 * samples_in_all (ordinary (take l.i l.signals)))
    × (l.annotations ≡ 2 * samples_in_all (labelled (take l.i l.signals)))
    × (l.ordinary + l.annotations ≤ l.i * 200_000_000)
