use Rattle.std.proofs.Common.{◌≡◌, ◌++◌, take}
use Rattle.std.specs.List.{flat_map}
use Rattle.edf_header.specs.Signal.{ordinary}
use Rattle.edf_header.proofs.header_signals.push_ordinary.Given as goal

abbrev pub invariant-loop-i : goal.invariant-loop-i
invariant-loop-i l = l.out.items ≡ l.fn.out.items
    ++ flat_map (λ s. s) (ordinary (take l.i l.signals))
