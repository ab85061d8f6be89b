use Rattle.std.proofs.Common.{subst}
use Rattle.edf_picture.specs.Bands.{IsRange}
use Rattle.edf_picture.proofs.Joined.{joined-ranges}
use Rattle.edf_picture.proofs.bands.joined.Goals as goal

pub returns-in-Some-Some : goal.returns-in-Some-Some
returns-in-Some-Some c = λ one other p q. rw (c.min.ensures, c.max.ensures)
    (joined-ranges one other c.in-Some-Some.one c.in-Some-Some.other
    (subst (IsRange one) c.in-Some-Some.is-0 p) (subst (IsRange other) c.in-Some-Some.is-1 q))
