use Rattle.std.proofs.Common.{rules, ◌≡◌, ◌/◌, ap, arith}
use Rattle.edf_runs.proofs.Divided.{best}
use Rattle.edf_runs.proofs.division.divide.Goals as goal

pub returns : goal.returns
returns c =
    let i = c.loop-before.invariant in
    let d = c.args.duration in
    let first = c.requires.sized in
    let most : c.in-Some.most ≡ first.0 = search rules in
    best d c.args.sizes.now first.0 first.1 c.loop-before.parts (d / c.from-2.result)
    c.loop-before.before first.2 first.3
    (omega (arith, most, c.loop-before-test.false)) i.some i.divides
    (ap (λ n. d / n) c.from-2.ensures) i.longer
