use Rattle.std.proofs.Common.{List, ℕ, Option, refl, sym, subst}
use Rattle.edf_mend.specs.Header.{KeepsTime}
use Rattle.edf_mend.proofs.start.good_time.Goals as goal

pub returns-else-not-has_no_time : goal.returns-else-not-has_no_time
returns-else-not-has_no_time c =
    subst (λ (g : Option (List ℕ)). KeepsTime g c.args.old.now c.in-Some.time) (sym c.in-Some.is)
    (refl, c.has_no_time.ensures c.if-not-has_no_time.false)
