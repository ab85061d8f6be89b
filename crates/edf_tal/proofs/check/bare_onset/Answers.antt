use Rattle.std.proofs.Common.{refl, rules}
use Rattle.edf_tal.proofs.Bare.{bare-sides, bare-told}
use Rattle.edf_tal.proofs.check.bare_onset.Goals as goal

pub returns-in-43 : goal.returns-in-43
returns-in-43 c =
    let tal = c.in_ok-tal.tal.now in
    let sides = bare-sides tal c.in-43.len_at_least (search rules) (search rules) (search rules) in
    bare-told c.args.block.now tal c.in_ok-tal.zeros.now _ c.capped_seconds.result
    c.in_ok-tal.ensures.1 sides (c.if-are_zeros.ensures.0 refl) c.capped_seconds.ensures
