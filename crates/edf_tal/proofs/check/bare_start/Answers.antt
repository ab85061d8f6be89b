use Rattle.std.proofs.Common.{refl, pos, rules}
use Rattle.edf_tal.proofs.Bare.{bare-read, cut-one}
use Rattle.edf_tal.proofs.check.bare_start.Goals as goal

pub returns : goal.returns
returns c =
    let (n, is, whole) = c.in_ok-onset.ensures in
    let told = c.in_ok-start.ensures (pos n) (n, is, refl) in
    rw (cut-one c.args.sizes.now c.args.block.now c.requires (search rules))
    (bare-read c.args.block.now c.args.file_start c.args.place.now n c.in_ok-start.start whole
    ((c.if-not-keeps_second.ensures (pos n) (n, is, refl)).0 refl) told.0 told.1
    (c.if-not-keeps_order.ensures.0 refl))
