use Rattle.std.proofs.Common.{[], ◌∷◌, arith, subst}
use Rattle.edf_tal.specs.Block.{split_by_sizes}
use Rattle.edf_tal.specs.Inside.Blocks.{HasForm}
use Rattle.edf_tal.proofs.Cuts.{HasNext, next-block, surveyed-next, surveyed-begin, surveyed-fits}
use Rattle.edf_tal.proofs.Cuts.{surveyed-broken, surveyed-all}
use Rattle.edf_tal.proofs.Joined.{broken-room}
use Rattle.edf_tal.proofs.Judge.{fault-tal, fault-text}
use Rattle.edf_tal.proofs.blocks.survey_blocks.Goals as goal
use Rattle.edf_tal.proofs.blocks.survey_blocks.Goals.{After-split_at}

-- the block that is gone over
the-next : (c : After-split_at) →
    HasNext c.args.sizes.now c.loop-size.size-index c.loop-size.rest.now c.split_at.result.0.now
    c.split_at.result.1.now
the-next c =
    next-block c.args.sizes.now c.loop-size.size-index c.loop-size.rest.now c.split_at.result.0.now
    c.split_at.result.1.now c.loop-size-test.true
    c.loop-size.invariant.left c.split_at.ensures.front c.split_at.ensures.back

pub with_next-form-requires : goal.with_next-form-requires
with_next-form-requires c =
    let n = the-next (goal.at.with_next-form-requires c).After-split_at in
    let w = c.loop-size.invariant in
    let begun = surveyed-begin c.args.sizes.now c.args.block.now c.loop-size.size-index
    c.loop-size.rest.now c.args.file_start c.loop-size.form w in
    let room = surveyed-fits c.args.sizes.now c.args.block.now c.loop-size.size-index
    c.loop-size.rest.now c.split_at.result.0.now c.split_at.result.1.now
    c.args.file_start c.loop-size.form w n in
    let fits = c.well_formed in (
      c.args.file_start,
      w.done,
      c.split_at.result.0.now ∷ [],
      w.is_form,
      begun,
      c.in-Ok.ensures,
      omega arith,
    )

pub overflow_add-result : goal.overflow_add-result
overflow_add-result c =
    let n = the-next (goal.at.overflow_add-result c).After-split_at in
    let fits = c.well_formed in
    omega (
      arith,
      n.both,
      c.loop-size.invariant.room,
      broken-room (c.split_at.result.0.now ∷ []) c.in-Err.offset c.in-Err.ensures,
    )

pub returns-in-Err : goal.returns-in-Err
returns-in-Err c = λ place.
    let n = the-next (goal.at.returns-in-Err c).After-split_at in
    fault-tal _ c.args.file_start place _ (surveyed-broken c.args.sizes.now c.args.block.now
    c.loop-size.size-index c.loop-size.rest.now c.split_at.result.0.now c.split_at.result.1.now
    c.args.file_start c.loop-size.form c.in-Err.offset c.loop-size.invariant n c.in-Err.ensures)

pub loop-size-preserved : goal.loop-size-preserved
loop-size-preserved c =
    let n = the-next (goal.at.loop-size-preserved c).After-split_at in
    let w = c.loop-size.invariant in
    let begun = surveyed-begin c.args.sizes.now c.args.block.now c.loop-size.size-index
    c.loop-size.rest.now c.args.file_start c.loop-size.form w in
    surveyed-next c.args.sizes.now c.args.block.now c.loop-size.size-index c.loop-size.rest.now
    c.split_at.result.0.now c.split_at.result.1.now c.args.file_start c.loop-size.form
    c.with_next-form.result w n (c.with_next-form.ensures c.args.file_start w.done
    (c.split_at.result.0.now ∷ []) w.is_form begun c.in-Ok.ensures)

pub returns-in-BadText : goal.returns-in-BadText
returns-in-BadText c = λ place.
    let h = surveyed-all c.args.sizes.now c.args.block.now c.loop-size.size-index
    c.loop-size.rest.now
    c.args.file_start c.loop-size.form c.loop-size.invariant c.loop-size-test.false in
    let bad = subst (HasForm (split_by_sizes c.args.sizes.now c.args.block.now) c.args.file_start)
    c.in-BadText.is h in
    fault-text (split_by_sizes c.args.sizes.now c.args.block.now) c.args.file_start place
    c.in-BadText.offset bad.0 bad.1

pub returns-in-Good : goal.returns-in-Good
returns-in-Good c =
    let h = surveyed-all c.args.sizes.now c.args.block.now c.loop-size.size-index
    c.loop-size.rest.now
    c.args.file_start c.loop-size.form c.loop-size.invariant c.loop-size-test.false in
    subst (HasForm (split_by_sizes c.args.sizes.now c.args.block.now) c.args.file_start)
    c.in-Good.is h
