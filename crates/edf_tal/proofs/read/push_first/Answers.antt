use Rattle.std.proofs.lemmas.Result.{on_ok_weaker}
use Rattle.edf_tal.specs.Tal.{terminated}
use Rattle.edf_tal.proofs.Lists.{some-tal, next-tal, first-timed, after-empty, tells-rest}
use Rattle.edf_tal.proofs.Lists.{whole-list}
use Rattle.edf_tal.proofs.read.push_first.Goals as goal

pub unreachable-requires : goal.unreachable-requires
unreachable-requires c = let r = c.requires in
    some-tal c.args.file_start c.args.block.now r.0 r.1 r.2 c.in_default.ensures

pub after_empty-texts-requires : goal.after_empty-texts-requires
after_empty-texts-requires c =
    let r = c.requires in
    let t = c.in-Some.ensures.0 in
    let n = next-tal c.args.file_start c.args.block.now c.in-Some.first.texts.now
    c.in-Some.first.rest.now t r.0 r.1 c.in-Some.ensures.1 in
    let xs = first-timed c.args.file_start c.in-Some.first.rest.now c.in-Some.first.texts.now t r.0
    n r.2 in (
      terminated xs.0,
      after-empty c.args.file_start c.in-Some.first.rest.now c.in-Some.first.texts.now t
          r.0 xs.0 n xs.1,
    )

pub push_tal-requires : goal.push_tal-requires
push_tal-requires c =
    let r = c.requires in
    let t = c.in-Some.ensures.0 in
    let n = next-tal c.args.file_start c.args.block.now c.in-Some.first.texts.now
    c.in-Some.first.rest.now t r.0 r.1 c.in-Some.ensures.1 in
    let xs = first-timed c.args.file_start c.in-Some.first.rest.now c.in-Some.first.texts.now t r.0
    n r.2 in
    let after = c.after_empty-texts.ensures (terminated xs.0)
    (after-empty c.args.file_start c.in-Some.first.rest.now c.in-Some.first.texts.now t r.0
    xs.0 n xs.1) in (
      record t { texts = xs.0 },
      tells-rest c.args.file_start c.in-Some.first.rest.now c.in-Some.first.texts.now t r.0 xs.0
          c.in-Some.first.times.ahead c.in-Some.first.times.onset c.in-Some.first.times.duration
          c.after_empty-texts.result.now n xs.1 after c.in-Some.ensures.2 c.in-Some.ensures.3,
    )

pub push_tals-requires : goal.push_tals-requires
push_tals-requires c =
    let r = c.requires in
    let t = c.in-Some.ensures.0 in
    let n = next-tal c.args.file_start c.args.block.now c.in-Some.first.texts.now
    c.in-Some.first.rest.now t r.0 r.1 c.in-Some.ensures.1 in
    (n.others, n.sound)

pub returns : goal.returns
returns c = λ ts sound timed.
    let t = c.in-Some.ensures.0 in
    let n = next-tal c.args.file_start c.args.block.now c.in-Some.first.texts.now
    c.in-Some.first.rest.now t ts sound c.in-Some.ensures.1 in
    let xs = first-timed c.args.file_start c.in-Some.first.rest.now c.in-Some.first.texts.now t ts n
    timed in
    let after = c.after_empty-texts.ensures (terminated xs.0)
    (after-empty c.args.file_start c.in-Some.first.rest.now c.in-Some.first.texts.now t ts xs.0
    n xs.1) in
    let told = tells-rest c.args.file_start c.in-Some.first.rest.now c.in-Some.first.texts.now t ts
    xs.0 c.in-Some.first.times.ahead c.in-Some.first.times.onset c.in-Some.first.times.duration
    c.after_empty-texts.result.now n xs.1 after c.in-Some.ensures.2 c.in-Some.ensures.3 in
    on_ok_weaker c.push_tals.result
    (whole-list c.args.file_start c.in-Some.first.rest.now c.in-Some.first.texts.now t ts xs.0
    c.args.list.now.items c.push_tal.new.list.items c.push_tals.new.list.items n xs.1
    (c.in_ok-push_tal.ensures (record t { texts = xs.0 }) told))
    (c.push_tals.ensures n.others n.sound)
