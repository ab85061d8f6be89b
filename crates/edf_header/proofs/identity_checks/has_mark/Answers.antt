use Rattle.std.proofs.Common.{inl, inr, arith}
use Rattle.edf_header.proofs.identity_checks.has_mark.Goals as goal

pub returns-in-68 : goal.returns-in-68
returns-in-68 c = (
  λ t. inl (c.in-68.is, c.are_spaces.ensures.0 t),
  λ m. elim m [
    | inl d ↦ c.are_spaces.ensures.1 d.1
    | inr x ↦
        absurd (omega (arith, c.in-68.is))
  ],
)
