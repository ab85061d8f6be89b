use Rattle.edf_time.specs.Decimal.{fraction_text}
use Rattle.edf_time.proofs.Short.{IsCounting}
use Rattle.edf_time.proofs.shortest.fraction_len.Given as goal

abbrev pub invariant-loop-part : goal.invariant-loop-part
invariant-loop-part l = IsCounting l.unit l.part l.len (fraction_text l.fn.part)

abbrev pub decreases-loop-part : goal.decreases-loop-part
decreases-loop-part l = l.unit
