use Rattle.std.proofs.Common.{arith, ◌≡◌, ◌+◌, ◌-◌, length, ◌&&◌}
use Rattle.edf_tal.proofs.Totals.{survey-none, survey-more, survey-room, survey-bad, survey-after}
use Rattle.edf_tal.proofs.Totals.{front-shorter, after-more, after-after, good-count, both-true}
use Rattle.edf_tal.proofs.survey.survey.Goals as goal

pub loop-tal-init : goal.loop-tal-init
loop-tal-init c = survey-none c.args.block.now c.args.file_start

pub overflow_add-count : goal.overflow_add-count
overflow_add-count c =
    let room = survey-room c.args.block.now c.loop-tal.rest.now c.args.file_start
    c.loop-tal.in_window c.loop-tal.count c.loop-tal.text_bytes c.loop-tal.invariant in
    let short = front-shorter c.loop-tal.rest.now c.in-Some.tal.texts.now c.in-Some.tal.rest.now
    c.in-Some.ensures.0 c.in-Some.ensures.1 in
    let few = good-count c.in-Some.tal.texts.now c.in-Ok.texts c.in-Ok.ensures in
    let fits = c.well_formed in
    omega arith

pub overflow_sub-text_bytes : goal.overflow_sub-text_bytes
overflow_sub-text_bytes c = good-count c.in-Some.tal.texts.now c.in-Ok.texts c.in-Ok.ensures

pub overflow_add-text_bytes : goal.overflow_add-text_bytes
overflow_add-text_bytes c =
    let room = survey-room c.args.block.now c.loop-tal.rest.now c.args.file_start
    c.loop-tal.in_window c.loop-tal.count c.loop-tal.text_bytes c.loop-tal.invariant in
    let short = front-shorter c.loop-tal.rest.now c.in-Some.tal.texts.now c.in-Some.tal.rest.now
    c.in-Some.ensures.0 c.in-Some.ensures.1 in
    let fits = c.well_formed in
    omega arith

pub loop-tal-smaller : goal.loop-tal-smaller
loop-tal-smaller c =
    omega (
      arith,
      front-shorter c.loop-tal.rest.now c.in-Some.tal.texts.now c.in-Some.tal.rest.now
          c.in-Some.ensures.0 c.in-Some.ensures.1,
    )

pub loop-tal-preserved : goal.loop-tal-preserved
loop-tal-preserved c =
    let few = good-count c.in-Some.tal.texts.now c.in-Ok.texts c.in-Ok.ensures in
    let sum : c.in-Ok.texts + (length c.in-Some.tal.texts.now - c.in-Ok.texts) ≡ length
    c.in-Some.tal.texts.now = omega arith in
    survey-more c.args.block.now c.loop-tal.rest.now c.in-Some.tal.texts.now c.in-Some.tal.rest.now
    c.args.file_start c.in-Some.ensures.0 c.loop-tal.in_window (c.loop-tal.in_window &&
    c.is_in_window-in_window.result) c.is_in_window-in_window.result c.loop-tal.count
    c.loop-tal.text_bytes c.in-Ok.texts (length c.in-Some.tal.texts.now - c.in-Ok.texts)
    c.loop-tal.invariant c.in-Some.ensures.1 c.in-Ok.ensures (c.is_in_window-in_window.ensures
    c.in-Some.ensures.0 c.in-Some.ensures.2 c.in-Some.ensures.3) (both-true c.loop-tal.in_window
    c.is_in_window-in_window.result) sum

pub returns-in-Err : goal.returns-in-Err
returns-in-Err c =
    let after = survey-after c.args.block.now c.loop-tal.rest.now c.args.file_start
    c.loop-tal.in_window c.loop-tal.count c.loop-tal.text_bytes c.loop-tal.invariant in (
      after-after c.args.block.now c.in-Some.tal.rest.now c.after_tals.result.now
          (after-more c.args.block.now c.loop-tal.rest.now c.in-Some.tal.texts.now
          c.in-Some.tal.rest.now c.in-Some.ensures.0 after c.in-Some.ensures.1)
          c.after_tals.ensures.whole,
      c.after_tals.ensures.last,
      survey-bad c.args.block.now c.loop-tal.rest.now c.in-Some.tal.texts.now c.in-Some.tal.rest.now
          c.args.file_start c.in-Some.ensures.0
          c.loop-tal.in_window c.loop-tal.count c.loop-tal.text_bytes c.in-Err.at
          c.loop-tal.invariant c.in-Some.ensures.1 c.in-Err.ensures,
    )
