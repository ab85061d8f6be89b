use Rattle.edf_tal.proofs.Again.{one-writing}
use Rattle.edf_tal.proofs.laws.one_writing.Goals as goal

pub returns : goal.returns
returns c = λ base m n k l low p q a b d e same. let s =
    one-writing base m n k l low p q a b d e same in (s.start, s.list)
