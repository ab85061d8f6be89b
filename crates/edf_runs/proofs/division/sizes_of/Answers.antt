use Rattle.std.proofs.Common.{◌≡◌, ◌+◌, ◌-◌, ◌*◌, [], get_or, take, drop, refl, sym}
use Rattle.std.proofs.Common.{subst}
use Rattle.std.proofs.Common.{All}
use Rattle.edf_header.specs.Signal.{rows_of, HasSamples}
use Rattle.edf_runs.proofs.Rows.{sliced-row, within-rows, one-size, all-sizes}
use Rattle.edf_runs.proofs.division.sizes_of.Goals as goal

pub unreachable-requires : goal.unreachable-requires
unreachable-requires c =
    let rows = c.signal_rows-rows.result.now in
    let i = c.loop-i.i in
    let lt = c.loop-i-test.true in
    let row = take (256 * i + 256 - 256 * i) (drop (256 * i) rows) in
    let is : row ≡ get_or (rows_of rows) i [] = sliced-row rows row i lt refl in
    let all : All HasSamples (rows_of rows) =
    subst (All HasSamples) (sym c.signal_rows-rows.ensures) c.identity_is_key.ensures.each_samples
    in
    let has : HasSamples row = subst HasSamples (sym is) (all i [] (within-rows rows i lt)) in
    c.in_default.ensures has.whole

pub loop-i-preserved : goal.loop-i-preserved
loop-i-preserved c =
    let rows = c.signal_rows-rows.result.now in
    let i = c.loop-i.i in
    let lt = c.loop-i-test.true in
    let row = take (256 * i + 256 - 256 * i) (drop (256 * i) rows) in
    one-size rows row c.loop-i.sizes.items c.push.new.self.items i c.in-Some.size lt
    (sliced-row rows row i lt refl) c.in-Some.ensures.1 c.loop-i.invariant
    c.in_ok-push.ensures.items

pub returns : goal.returns
returns c =
    all-sizes c.signal_rows-rows.result.now c.loop-i.sizes.items c.loop-i.i
    c.args.identity.now.signals
    c.signal_rows-rows.ensures c.loop-i-test.false c.loop-i.invariant
