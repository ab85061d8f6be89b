use Rattle.std.proofs.Common.{arith, length, ap, ◌∷◌}
use Rattle.std.proofs.lemmas.List.{length-append}
use Rattle.edf_tal.proofs.Surveys.{checked-more, checked-room}
use Rattle.edf_tal.proofs.scan.check_texts.Goals as goal

pub overflow_add-count : goal.overflow_add-count
overflow_add-count c =
    let room = checked-room c.args.texts.now c.loop-text.rest.now c.loop-text.count
    c.loop-text.invariant in
    let fits = c.well_formed in
    omega (
      arith,
      ap length c.in-Some.ensures.1,
      length-append c.in-Some.text.now (20 ∷ c.in-Some.more.now),
    )

pub loop-text-preserved : goal.loop-text-preserved
loop-text-preserved c =
    checked-more c.args.texts.now c.loop-text.rest.now c.in-Some.text.now c.in-Some.more.now
    c.loop-text.count c.loop-text.invariant
    c.in-Some.ensures.0 c.in-Some.ensures.1 c.in-Ok.ensures.1
