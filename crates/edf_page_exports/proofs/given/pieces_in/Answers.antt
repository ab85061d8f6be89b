use Rattle.std.proofs.Common.{◌≤◌, map, length, get_or, refl, sym, ◌∙◌, rules}
use Rattle.std.proofs.lemmas.List.{take_all, take_more}
use Rattle.edf_page_exports.proofs.Cuts.{bytes_of, too-few, too-many}
use Rattle.edf_page_exports.proofs.given.pieces_in.Goals as goal

pub returns-in_default-clause-none : goal.returns-in_default-clause-none
returns-in_default-clause-none c is ps cut =
    too-few c.args.bytes.now c.loop-size.left.now c.args.sizes.now
    (map bytes_of c.loop-size.pieces.items) c.loop-size.size-index
    (get_or c.args.sizes.now c.loop-size.size-index 0) c.loop-size.invariant.all
    c.loop-size.invariant.sized
    (take_more c.args.sizes.now c.loop-size.size-index 0 c.loop-size-test.true)
    (c.in_default.ensures.none refl) ps cut

pub returns-clause-none : goal.returns-clause-none
returns-clause-none c is ps cut =
    let all = take_all c.loop-size.size-index c.args.sizes.now c.loop-size-test.false in
    let some : 1 ≤ length c.loop-size.left.now = search rules in
    too-many c.args.bytes.now c.loop-size.left.now c.args.sizes.now
    (map bytes_of c.loop-size.pieces.items) c.loop-size.invariant.all
    (sym all ∙ c.loop-size.invariant.sized) some ps cut
