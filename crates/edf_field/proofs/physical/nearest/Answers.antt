use Rattle.std.proofs.Common.{◌≡◌, ◌≢◌, ℕ, ◌+◌, ◌-◌, ◌*◌, ◌/◌, ◌^◌, ◌≤◌, ◌<◌, Bool, true, false}
use Rattle.std.proofs.Common.{arith, sym, ap, ◌∙◌, subst}
use Rattle.std.specs.Prelude.{ℤ, pos, neg_ℤ}
use Rattle.edf_field.specs.Number.{signed}
use Rattle.edf_field.specs.Nearest.{IsNearestZero}
use Rattle.edf_field.proofs.NearestZero.{nearest-low, nearest-high, nearest-between}
use Rattle.edf_field.proofs.NearestZero.{one-sign, two-signs, some-span}
use Rattle.edf_field.proofs.physical.nearest.Goals as goal

pub returns-then-low_size-high_size : goal.returns-then-low_size-high_size
returns-then-low_size-high_size c =
    let p = c.args.low.negative in
    let a = c.args.low.unscaled * 10 ^ c.args.high.fraction_len in
    let b = c.args.high.unscaled * 10 ^ c.args.low.fraction_len in
    let x : c.from.result * c.pow.result ≡ a = rw (c.from.ensures, c.pow.ensures) in
    let y : c.from-2.result * c.pow-2.result ≡ b = rw (c.from-2.ensures, c.pow-2.ensures) in
    let le : a ≤ b = omega (arith, x, y, c.if-low_size-high_size.true) in
    subst (λ q. IsNearestZero (signed p a) (signed q b) c.args.steps 0)
    (one-sign p c.args.high.negative c.if-low-high.true) (nearest-low p a b c.args.steps le)

pub returns-else-low_size-high_size : goal.returns-else-low_size-high_size
returns-else-low_size-high_size c =
    let p = c.args.low.negative in
    let a = c.args.low.unscaled * 10 ^ c.args.high.fraction_len in
    let b = c.args.high.unscaled * 10 ^ c.args.low.fraction_len in
    let x : c.from.result * c.pow.result ≡ a = rw (c.from.ensures, c.pow.ensures) in
    let y : c.from-2.result * c.pow-2.result ≡ b = rw (c.from-2.ensures, c.pow-2.ensures) in
    let lt : b < a = omega (arith, x, y, c.if-low_size-high_size.false) in
    subst (λ q. IsNearestZero (signed p a) (signed q b) c.args.steps c.args.steps)
    (one-sign p c.args.high.negative c.if-low-high.true) (nearest-high p a b c.args.steps lt)

pub returns : goal.returns
returns c =
    let p = c.args.low.negative in
    let q = c.args.high.negative in
    let a = c.args.low.unscaled * 10 ^ c.args.high.fraction_len in
    let b = c.args.high.unscaled * 10 ^ c.args.low.fraction_len in
    let x : c.from.result * c.pow.result ≡ a = rw (c.from.ensures, c.pow.ensures) in
    let y : c.from-2.result * c.pow-2.result ≡ b = rw (c.from-2.ensures, c.pow-2.ensures) in
    let span : c.from-span.result ≡ a + b = omega (arith, x, y, c.from-span.ensures) in
    let size : c.from-3.result ≡ a = c.from-3.ensures ∙ x in
    rw (span, size, c.from-4.ensures)
    (nearest-between p q a b c.args.steps (two-signs p q c.if-low-high.false)
    (some-span p q a b c.requires))
