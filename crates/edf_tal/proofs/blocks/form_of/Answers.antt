use Rattle.std.proofs.Common.{refl, arith}
use Rattle.edf_tal.proofs.Joined.{broken-one, form-bad, surveyed-one}
use Rattle.edf_tal.proofs.Totals.{survey-after}
use Rattle.edf_tal.proofs.blocks.form_of.Goals as goal

pub returns-then-not-are_zeros : goal.returns-then-not-are_zeros
returns-then-not-are_zeros c =
    let v = c.in-Ok.totals in
    broken-one c.args.block.now v.rest.now
    (survey-after c.args.block.now v.rest.now c.args.file_start v.in_window v.count
    v.text_bytes c.in-Ok.ensures.0) c.in-Ok.ensures.1 (λ z. absurd (grind (
      arith,
      c.are_zeros.ensures.1 z,
      c.if-not-are_zeros.true,
    )))

pub returns-then-not-are_zeros-2 : goal.returns-then-not-are_zeros-2
returns-then-not-are_zeros-2 c =
    broken-one c.args.block.now c.in-Err.bad.rest.now c.in-Err.ensures.0 c.in-Err.ensures.1
    (λ z. absurd (grind (arith, c.are_zeros-in-Err.ensures.1 z, c.if-not-are_zeros-2.true)))

pub returns-else-not-are_zeros : goal.returns-else-not-are_zeros
returns-else-not-are_zeros c =
    let v = c.in-Ok.totals in
    surveyed-one c.args.block.now v.rest.now c.args.file_start v.in_window v.count v.text_bytes
    c.in-Ok.ensures.0 (c.if-not-are_zeros.ensures.0 refl)

pub returns-else-not-are_zeros-2 : goal.returns-else-not-are_zeros-2
returns-else-not-are_zeros-2 c =
    form-bad c.args.block.now c.in-Err.bad.rest.now c.args.file_start c.in-Err.bad.offset
    c.in-Err.ensures.0 (c.if-not-are_zeros-2.ensures.0 refl) c.in-Err.ensures.2
