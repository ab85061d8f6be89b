use Rattle.edf_tal.proofs.Cuts.{HasNext, next-block, next-tals, pushed-more, pushed-all}
use Rattle.edf_tal.proofs.blocks.push_blocks.Goals as goal
use Rattle.edf_tal.proofs.blocks.push_blocks.Goals.{After-split_at}

-- the block whose annotations are next
the-next : (c : After-split_at) →
    HasNext c.args.sizes.now c.loop-size.size-index c.loop-size.rest.now c.split_at.result.0.now
    c.split_at.result.1.now
the-next c =
    next-block c.args.sizes.now c.loop-size.size-index c.loop-size.rest.now c.split_at.result.0.now
    c.split_at.result.1.now c.loop-size-test.true
    c.loop-size.invariant.room c.split_at.ensures.front c.split_at.ensures.back

pub push_tals-requires : goal.push_tals-requires
push_tals-requires c =
    let n = the-next (goal.at.push_tals-requires c).After-split_at in
    let t = next-tals c.args.file_start c.args.sizes.now c.args.block.now c.loop-size.size-index
    c.loop-size.rest.now c.split_at.result.0.now c.split_at.result.1.now
    c.args.list.now.items c.loop-size.list.items c.loop-size.invariant n in
    (t.tals, t.sound)

pub loop-size-preserved : goal.loop-size-preserved
loop-size-preserved c =
    let n = the-next (goal.at.loop-size-preserved c).After-split_at in
    let t = next-tals c.args.file_start c.args.sizes.now c.args.block.now c.loop-size.size-index
    c.loop-size.rest.now c.split_at.result.0.now c.split_at.result.1.now
    c.args.list.now.items c.loop-size.list.items c.loop-size.invariant n in
    pushed-more c.args.file_start c.args.sizes.now c.args.block.now c.loop-size.size-index
    c.loop-size.rest.now c.split_at.result.0.now c.split_at.result.1.now
    c.args.list.now.items c.loop-size.list.items c.push_tals.new.list.items c.loop-size.invariant n
    t (c.in_ok-push_tals.ensures t.tals t.sound)

pub returns : goal.returns
returns c =
    pushed-all c.args.file_start c.args.sizes.now c.args.block.now c.loop-size.size-index
    c.loop-size.rest.now c.args.list.now.items c.loop-size.list.items
    c.loop-size.invariant c.loop-size-test.false
