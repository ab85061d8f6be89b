use Rattle.std.proofs.Common.{arith}
use Rattle.edf_header.specs.Key.{key_at}
use Rattle.edf_header.proofs.KeyLaws.{key-duration-some, key-duration-bound}
use Rattle.edf_header.proofs.identity.Identity.duration.Goals as goal

pub returns-clause-positive : goal.returns-clause-positive
returns-clause-positive c = omega (
  arith,
  c.self.invariant.duration_is,
  key-duration-some (key_at c.self.inside.bytes.items) c.self.invariant.key,
)

pub returns-clause-bound : goal.returns-clause-bound
returns-clause-bound c = omega (
  arith,
  c.self.invariant.duration_is,
  key-duration-bound (key_at c.self.inside.bytes.items) c.self.invariant.key,
)
