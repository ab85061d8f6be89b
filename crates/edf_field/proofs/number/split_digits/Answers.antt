use Rattle.std.proofs.lemmas.List.Sums.{prefix_len-le-length}
use Rattle.std.specs.Char.{is_ascii_digit}
use Rattle.edf_field.proofs.Numbers.{front-digits}
use Rattle.edf_field.proofs.number.split_digits.Goals as goal

pub split_at-requires : goal.split_at-requires
split_at-requires c = rw c.digits_end.ensures (prefix_len-le-length is_ascii_digit c.args.text.now)

pub returns-clause-each : goal.returns-clause-each
returns-clause-each c = rw (
  c.split_at.ensures.front,
  c.digits_end.ensures,
) (front-digits c.args.text.now)
