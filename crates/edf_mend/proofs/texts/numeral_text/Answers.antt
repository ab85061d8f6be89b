use Rattle.std.proofs.Common.{arith, eqb}
use Rattle.std.proofs.lemmas.List.Sums.{prefix_len-le-length}
use Rattle.edf_mend.proofs.texts.numeral_text.Goals as goal

pub split_at-requires : goal.split_at-requires
split_at-requires c = omega (
  arith,
  c.spaces_len.ensures,
  prefix_len-le-length (λ b. eqb b 32) c.unfilled-text.result.now,
)
