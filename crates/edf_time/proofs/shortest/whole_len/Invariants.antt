use Rattle.edf_time.proofs.Short.{IsDigitCount}
use Rattle.edf_time.proofs.shortest.whole_len.Given as goal

abbrev pub invariant-loop-number : goal.invariant-loop-number
invariant-loop-number l = IsDigitCount l.number l.digits l.fn.number

abbrev pub decreases-loop-number : goal.decreases-loop-number
decreases-loop-number l = l.number
