use Rattle.std.proofs.Common.{List, ℕ, true, false, ap, refl, subst, arith}
use Rattle.std.specs.List.{flat_map}
use Rattle.std.proofs.lemmas.List.{take_all}
use Rattle.edf_cli.specs.Output.{output_change, Gets}
use Rattle.edf_cli.proofs.Puts.{nothing-gets, put-sent}
use Rattle.edf_cli.proofs.Parts.{parts-more, parts-stop}
use Rattle.edf_cli.proofs.output.put_parts.Goals as goal

pub loop-part-init : goal.loop-part-init
loop-part-init g c = nothing-gets (g.W.Output.contents c.args.out.now)
    (g.W.Output.failures c.args.out.now)

pub loop-part-preserved : goal.loop-part-preserved
loop-part-preserved g c =
    let a = g.W.Output.contents c.args.out.now in
    let old = g.W.Output.failures c.args.out.now in
    let b = g.W.Output.contents c.loop-part.out in
    let mid = g.W.Output.failures c.loop-part.out in
    let after = g.W.Output.contents c.send.new.out in
    let new = g.W.Output.failures c.send.new.out in
    parts-more a old b mid after new (λ part. part.now) c.args.parts.now c.loop-part.part-index _
    c.loop-part-test.true c.loop-part.invariant true
    (put-sent b mid after new _ true c.if-not-send.ensures) refl

pub returns-then-not-send : goal.returns-then-not-send
returns-then-not-send g c =
    let a = g.W.Output.contents c.args.out.now in
    let old = g.W.Output.failures c.args.out.now in
    let b = g.W.Output.contents c.loop-part.out in
    let mid = g.W.Output.failures c.loop-part.out in
    let after = g.W.Output.contents c.send.new.out in
    let new = g.W.Output.failures c.send.new.out in
    parts-stop a old b mid after new (λ part. part.now) c.args.parts.now c.loop-part.part-index _
    c.loop-part-test.true c.loop-part.invariant
    (put-sent b mid after new _ false c.if-not-send.ensures)

pub returns : goal.returns
returns g c =
    let parts = c.args.parts.now in
    let IsOut : List ℕ → Type 0 = λ bytes.
    Gets (output_change g.W.Output c.args.out.now c.loop-part.out) bytes in
    subst IsOut (ap (flat_map (λ part. part.now))
    (take_all c.loop-part.part-index parts (omega (arith, c.loop-part-test.false))))
    c.loop-part.invariant
