use Rattle.std.proofs.Common.{List, ℕ, sym, subst}
use Rattle.edf_time.specs.Civil.{IsTimeText}
use Rattle.edf_mend.proofs.start.has_no_time.Goals as goal

pub returns : goal.returns
returns c = λ t seconds parted is. c.is_no_time.ensures t seconds
    (subst (λ (l : List ℕ). IsTimeText l seconds) (sym c.dotted.ensures) is)
