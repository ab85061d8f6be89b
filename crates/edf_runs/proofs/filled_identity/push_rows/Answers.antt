use Rattle.std.proofs.Common.{ℕ, ◌+◌, ◌-◌, ◌*◌, ◌/◌, ◌<◌, List, [], get_or, take, drop, length}
use Rattle.std.proofs.Common.{refl, sym, ap, ◌∙◌, arith}
use Rattle.std.proofs.lemmas.List.{get_or-map}
use Rattle.edf_header.specs.Signal.{rows_of, samples}
use Rattle.edf_runs.proofs.KeyOfFilled.{one-row}
use Rattle.edf_runs.proofs.Rows.{sliced-row, within-rows}
use Rattle.edf_runs.proofs.filled_identity.push_rows.Goals as goal

pub push_row-requires-clause-sized : goal.push_row-requires-clause-sized
push_row-requires-clause-sized c =
    let rows = c.args.rows.now in
    let i = c.loop-i.i in
    let lt : i < length rows / 256 = omega (arith, c.loop-i-test.true, c.requires.whole) in
    let row = take (256 * i + 256 - 256 * i) (drop (256 * i) rows) in
    ap (λ (l : List ℕ). get_or l i 0) c.requires.sized
    ∙ get_or-map samples (rows_of rows) i [] 0 (within-rows rows i lt)
    ∙ ap samples (sym (sliced-row rows row i lt refl))

pub loop-i-preserved : goal.loop-i-preserved
loop-i-preserved c =
    let rows = c.args.rows.now in
    let i = c.loop-i.i in
    let lt : i < length rows / 256 = omega (arith, c.loop-i-test.true, c.requires.whole) in
    let row = take (256 * i + 256 - 256 * i) (drop (256 * i) rows) in
    one-row c.args.parts rows row [] c.loop-i.out.items c.push_row.new.out.items
    c.args.out.now.items i lt (sliced-row rows row i lt refl) c.in_ok-push_row.ensures
    c.loop-i.invariant
