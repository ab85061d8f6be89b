use Rattle.std.proofs.Common.{arith}
use Rattle.edf_tal.proofs.Totals.{front-shorter}
use Rattle.edf_tal.proofs.Lists.{next-tal, tells, tals-more, tals-all}
use Rattle.edf_tal.proofs.read.push_tals.Goals as goal

pub push_tal-requires : goal.push_tal-requires
push_tal-requires c =
    let t = c.in-Some.ensures.0 in
    let i = c.loop-tal.invariant in
    let n = next-tal c.args.file_start c.loop-tal.rest.now c.in-Some.tal.texts.now
    c.in-Some.tal.rest.now t i.left i.are_left c.in-Some.ensures.1 in (
      t,
      tells c.args.file_start c.in-Some.tal.rest.now c.in-Some.tal.texts.now t i.left
          c.in-Some.tal.times.ahead c.in-Some.tal.times.onset c.in-Some.tal.times.duration
          n c.in-Some.ensures.2 c.in-Some.ensures.3,
    )

pub loop-tal-preserved : goal.loop-tal-preserved
loop-tal-preserved c =
    let t = c.in-Some.ensures.0 in
    let i = c.loop-tal.invariant in
    let n = next-tal c.args.file_start c.loop-tal.rest.now c.in-Some.tal.texts.now
    c.in-Some.tal.rest.now t i.left i.are_left c.in-Some.ensures.1 in
    tals-more c.args.file_start c.args.tals.now c.loop-tal.rest.now c.in-Some.tal.texts.now
    c.in-Some.tal.rest.now c.args.list.now.items c.loop-tal.list.items c.push_tal.new.list.items t i
    c.in-Some.ensures.1 (c.in_ok-push_tal.ensures t (tells c.args.file_start c.in-Some.tal.rest.now
    c.in-Some.tal.texts.now t i.left c.in-Some.tal.times.ahead c.in-Some.tal.times.onset
    c.in-Some.tal.times.duration n c.in-Some.ensures.2 c.in-Some.ensures.3))

pub loop-tal-smaller : goal.loop-tal-smaller
loop-tal-smaller c =
    omega (
      arith,
      front-shorter c.loop-tal.rest.now c.in-Some.tal.texts.now c.in-Some.tal.rest.now
          c.in-Some.ensures.0 c.in-Some.ensures.1,
    )

pub returns : goal.returns
returns c =
    tals-all c.args.file_start c.args.tals.now c.loop-tal.rest.now c.args.list.now.items
    c.loop-tal.list.items c.loop-tal.invariant c.in_default.ensures
