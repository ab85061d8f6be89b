use Rattle.std.proofs.Common.{arith, ap, length}
use Rattle.edf_header.specs.Key.{Key}
use Rattle.edf_header.proofs.Held.{held-len}
use Rattle.edf_header.proofs.identity.Identity.signals.Goals as goal

pub returns-clause-count : goal.returns-clause-count
returns-clause-count c =
    omega (
      arith,
      ap (λ (k : Key). length k.signals) c.self.view_is,
      c.len.ensures,
      held-len c.self.inside.bytes.items c.self.invariant.back c.self.invariant.key,
    )
