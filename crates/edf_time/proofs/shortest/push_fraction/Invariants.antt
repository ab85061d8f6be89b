use Rattle.std.proofs.Common.{◌++◌}
use Rattle.edf_time.specs.Decimal.{fraction_text}
use Rattle.edf_time.proofs.Short.{IsWriting}
use Rattle.edf_time.proofs.shortest.push_fraction.Given as goal

abbrev pub invariant-loop-part : goal.invariant-loop-part
invariant-loop-part l = IsWriting l.unit l.part l.text.items (l.fn.text.items
    ++ fraction_text l.fn.part)

abbrev pub decreases-loop-part : goal.decreases-loop-part
decreases-loop-part l = l.unit
