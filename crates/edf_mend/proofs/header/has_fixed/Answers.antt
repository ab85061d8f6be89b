use Rattle.std.proofs.Common.{◌∙◌}
use Rattle.edf_mend.proofs.header.has_fixed.Goals as goal

pub returns : goal.returns
returns c = λ t. (
  c.is_same.ensures.0 c.if-not-is_same.false,
  c.is_same-2.ensures.0 c.if-not-is_same-2.false,
  c.is_same-3.ensures.0 c.if-not-is_same-3.false,
  c.is_same-4.ensures.0 t ∙ c.as_slice.ensures.value,
)
