use Rattle.std.proofs.Common.{inl}
use Rattle.edf_mend.proofs.signal.keeps_ends.Goals as goal

pub returns : goal.returns
returns c = λ t. inl (
  c.in_ok-is_numeral.ensures c.if-not-branch.false,
  c.in_ok-is_numeral-2.ensures c.if-not-branch-2.false,
  c.in_ok-keeps_limits.ensures t,
)
