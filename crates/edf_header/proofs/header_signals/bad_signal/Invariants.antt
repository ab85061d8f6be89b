use Rattle.std.specs.List.{AllWithin}
use Rattle.edf_header.specs.Signal.{Passes}
use Rattle.edf_header.proofs.header_signals.bad_signal.Given as goal

abbrev pub invariant-loop-i : goal.invariant-loop-i
invariant-loop-i l = AllWithin (Passes l.check) l.signals 0 l.i
