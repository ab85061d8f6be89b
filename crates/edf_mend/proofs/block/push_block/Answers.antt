use Rattle.std.proofs.Common.{refl, sym, ◌∙◌, length}
use Rattle.std.proofs.lemmas.Bool.{eqb-true}
use Rattle.std.proofs.lemmas.List.{length-take-le}
use Rattle.edf_mend.proofs.Blocks.{none-read, token-read, block-read}
use Rattle.edf_mend.proofs.block.push_block.Goals as goal

pub loop-text-init : goal.loop-text-init
loop-text-init c = none-read c.args.nth c.args.at _ _ _

pub loop-text-preserved : goal.loop-text-preserved
loop-text-preserved c =
    let part = c.in_ok-push_token.ensures in
    token-read c.args.nth c.args.at c.front_len-end.result _ _ _ _ _ c.in-Some.text.now
    c.in-Some.more.now part.0 _ _ c.in-Some.stop _ _ _ _ _
    c.loop-text.invariant c.in-Some.ensures.0 c.in-Some.ensures.1 c.in-Some.ensures.2 part.1 part.2
    c.in_ok-push.ensures.items refl part.3
    (length-take-le c.front_len-end.result c.args.block.now c.front_len-end.ensures.within)
    refl

pub returns : goal.returns
returns c = λ empty. block-read c.args.nth c.args.at c.args.block.now _ _ _ _ _ _ _
    c.loop-text.invariant
    (eqb-true (length c.loop-text.rest.now) 0 (sym c.is_empty.ensures ∙ empty))
    c.front_len-end.ensures.fill
