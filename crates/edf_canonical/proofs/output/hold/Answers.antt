use Rattle.std.proofs.Common.{refl, rules}
use Rattle.edf_canonical.proofs.Puts.{holds, holds-none}
use Rattle.edf_canonical.proofs.output.hold.Goals as goal

pub returns-in-Ok-clause-put : goal.returns-in-Ok-clause-put
returns-in-Ok-clause-put g c = (holds _ _ _ refl (search rules), refl)

pub returns-in-Err-clause-put : goal.returns-in-Err-clause-put
returns-in-Err-clause-put g c = (holds-none _ _ _ refl, refl)
