use Rattle.std.specs.List.{AllWithin}
use Rattle.edf_header.specs.Signal.{Passes, rows_of}
use Rattle.edf_header.proofs.signal_checks.first_bad.Given as goal

abbrev pub invariant-loop-i : goal.invariant-loop-i
invariant-loop-i l = AllWithin (Passes l.check) (rows_of l.rows) 0 l.i
