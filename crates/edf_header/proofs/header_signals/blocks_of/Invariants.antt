use Rattle.std.proofs.Common.{◌≡◌, ◌*◌, ◌≤◌, take}
use Rattle.edf_header.specs.Signal.{samples_in_all}
use Rattle.edf_header.specs.Header.{blocks_from}
use Rattle.edf_header.proofs.header_signals.blocks_of.Given as goal

abbrev pub invariant-loop-i : goal.invariant-loop-i
invariant-loop-i l =
    (l.blocks.items ≡ blocks_from 0 (take l.i l.signals))
    × (l.at ≡ 2 * samples_in_all (take l.i l.signals))
    × (l.at ≤ l.i * 200_000_000)
