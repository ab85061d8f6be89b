use Rattle.std.proofs.Common.{ℕ, ◌+◌, ◌-◌, ◌∙◌, List, ◌++◌, [], ◌∷◌, ap, length, length-drop, drop}
use Rattle.std.proofs.Common.{get_or, arith}
use Rattle.std.proofs.lemmas.List.{take_all}
use Rattle.edf_mend.proofs.GoodRecords.{no_block, none-read, next-block, next-within, one-more}
use Rattle.edf_mend.proofs.GoodRecords.{all-read}
use Rattle.edf_mend.proofs.record.good_record.Goals as goal

pub loop-block-init : goal.loop-block-init
loop-block-init c = none-read c.args.nth c.args.header.now c.blocks-block-items.result.now
    c.args.bytes.now _ _ _ _ c.blocks-block-items.ensures.layout c.blocks-block-items.ensures.value
    c.requires c.new.ensures.items c.new-2.ensures.items c.new-3.ensures.items c.new-4.ensures.items

pub slice_bounds-extend_from_slice-end : goal.slice_bounds-extend_from_slice-end
slice_bounds-extend_from_slice-end c =
    let within = next-within _ _ c.blocks-block-items.result.now c.loop-block.block-index _ _ _ _ _
    _ c.loop-block-test.true c.loop-block.invariant in
    omega (arith, within.0, within.1)

pub field_at-old-requires : goal.field_at-old-requires
field_at-old-requires c = (next-within _ _ c.blocks-block-items.result.now
    c.loop-block.block-index _ _ _ _ _ _ c.loop-block-test.true c.loop-block.invariant).1

pub overflow_add-done : goal.overflow_add-done
overflow_add-done c =
    let within = next-within _ _ c.blocks-block-items.result.now c.loop-block.block-index _ _ _ _ _
    _ c.loop-block-test.true c.loop-block.invariant in
    omega (arith, within.1, c.requires, c.blocks-block-items.ensures.layout.record_size)

pub loop-block-preserved : goal.loop-block-preserved
loop-block-preserved c =
    let given = c.blocks-block-items.result.now in
    let i = c.loop-block.block-index in
    let good = c.in_ok-push_block.ensures c.if-not-branch.false in
    one-more c.args.nth given (drop (i + 1) given) (get_or given i no_block) c.args.bytes.now
    c.loop-block.done _ _ _ _ _ _ c.field_at-old.result.now good.0 _ good.1 _
    (next-block _ _ given i _ _ _ _ _ _ c.loop-block-test.true c.loop-block.invariant)
    c.in_ok-extend_from_slice.ensures.items c.field_at-old.ensures good.2 good.3 good.4
    (c.in_ok-push.ensures.items ∙ ap (λ n. c.loop-block.good.sizes.items ++ n ∷ [])
    (omega (arith, c.len.ensures, c.len-before.ensures)))

pub returns : goal.returns
returns c =
    let all = all-read c.args.nth c.args.header.now c.blocks-block-items.result.now
    c.loop-block.block-index c.args.bytes.now c.loop-block.done _ _ _ _ _
    c.blocks-block-items.ensures.value c.loop-block.invariant c.loop-block-test.false
    (c.in_ok-extend_from_slice-2.ensures.items
    ∙ ap (λ (l : List ℕ). c.loop-block.good.samples.items ++ l)
    (take_all (length c.args.bytes.now - c.loop-block.done)
    (drop c.loop-block.done c.args.bytes.now)
    (omega (arith, length-drop c.loop-block.done c.args.bytes.now)))) in
    record { samples = all.0; read = all.1; each = all.2; joined = all.3; sizes = all.4 }
