use Rattle.std.proofs.Common.{arith}
use Rattle.std.proofs.lemmas.List.Sums.{prefix_len-le-length}
use Rattle.std.specs.Prelude.{◌==◌, not}
use Rattle.edf_field.proofs.Durations.{not-read, not-lasting}
use Rattle.edf_field.proofs.number.read_duration.Goals as goal

pub split_at-requires : goal.split_at-requires
split_at-requires c = rw c.unpadded_len.ensures
    (prefix_len-le-length (λ b. not (b == 32)) c.args.field.now)

pub returns-in-Ok-2 : goal.returns-in-Ok-2
returns-in-Ok-2 c =
    not-lasting _ _ _ _ _ c.unpadded_len.ensures c.split_at.ensures.front c.split_at.ensures.back
    c.in-Ok.ensures.0 (λ lasts. omega (arith, lasts, c.if-nanos-gt0.false))
    (c.are_spaces.ensures.0 c.if-not-are_spaces.false)

pub returns-in-Err : goal.returns-in-Err
returns-in-Err c = not-read _ _ _ _ c.requires c.unpadded_len.ensures c.split_at.ensures.front
    c.in-Err.ensures
