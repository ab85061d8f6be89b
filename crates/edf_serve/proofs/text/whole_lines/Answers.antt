use Rattle.std.proofs.Common.{◌≡◌, ◌∙◌, ◌-◌, ℕ, take, get_or, ap, sym, arith}
use Rattle.std.proofs.lemmas.Bool.{ne_eqb}
use Rattle.edf_serve.specs.Lines.{whole_lines}
use Rattle.edf_serve.proofs.Whole.{front-whole, front-unfed, all-front}
use Rattle.edf_serve.proofs.text.whole_lines.Goals as goal

pub loop-end-init : goal.loop-end-init
loop-end-init c = (omega arith, ap whole_lines (all-front c.args.bytes.now))

pub returns-then-bytes-end-eq10 : goal.returns-then-bytes-end-eq10
returns-then-bytes-end-eq10 c = front-whole c.args.bytes.now c.loop-end.end c.loop-end-test.true
    c.loop-end.invariant.0 c.if-bytes-end-eq10.true ∙ c.loop-end.invariant.1

pub loop-end-preserved : goal.loop-end-preserved
loop-end-preserved c = (
  omega (arith, c.loop-end.invariant.0),
  front-unfed c.args.bytes.now c.loop-end.end c.loop-end-test.true c.loop-end.invariant.0
      (ne_eqb (get_or c.args.bytes.now (c.loop-end.end - 1) 0) 10 c.if-bytes-end-eq10.false)
      ∙ c.loop-end.invariant.1,
)

pub returns : goal.returns
returns c =
    let none : c.loop-end.end ≡ 0 = omega (arith, c.loop-end-test.false) in
    ap (λ (n : ℕ). whole_lines (take n c.args.bytes.now)) (sym none) ∙ c.loop-end.invariant.1
