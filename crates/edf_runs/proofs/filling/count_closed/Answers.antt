use Rattle.std.proofs.Common.{◌≡◌, ℕ, [], ap, drop, rules, arith, Option, None}
use Rattle.std.specs.Prelude.{cond, count_by}
use Rattle.std.proofs.lemmas.List.{drop_all}
use Rattle.edf_runs.specs.FillAnswers.{neighbours, is_closed}
use Rattle.edf_runs.proofs.FillCounting.{behind, behind-next, behind-first, behind-none}
use Rattle.edf_runs.proofs.FillCounting.{at-most-one}
use Rattle.edf_runs.proofs.filling.count_closed.Goals as goal
use Rattle.edf_runs.proofs.filling.count_closed.Goals.{in-Some, in_default}

pub loop-start-preserved : goal.loop-start-preserved
loop-start-preserved c =
    let p = c.args.parted.now in
    let f = is_closed p.duration p.division.parts p.division.unit p.first in
    let starts = p.starts.now in
    let i = c.loop-start.start-index in
    let s : ℕ = c.start-item.result in
    elim c.match-before.branch [
      | in-Some w ↦
          let b : ℕ = w.in-Some.before in
          let next = behind-next f b starts i s c.loop-start-test.true c.start-item.is in
          let was = ap (λ (o : Option ℕ). count_by f (neighbours (behind o (drop i starts))))
          w.in-Some.is in
          let one : w.from-closed.result ≡ cond {A = ℕ} (f (b, s)) 1 0 = search rules in
          record {
            few = omega (
              arith,
              w.closed-is,
              one,
              at-most-one (f (b, s)),
              c.loop-start.invariant.few,
            );
            so_far = omega (arith, w.closed-is, one, next, was, c.loop-start.invariant.so_far);
          }
      | in_default w ↦
          let next = behind-first f starts i s c.loop-start-test.true c.start-item.is in
          let none : c.loop-start.before ≡ None = search rules in
          let was = ap (λ (o : Option ℕ). count_by f (neighbours (behind o (drop i starts)))) none
          in
          record {
            few = omega (arith, w.closed-is, c.loop-start.invariant.few);
            so_far = omega (arith, w.closed-is, next, was, c.loop-start.invariant.so_far);
          }
    ]

pub returns : goal.returns
returns c =
    let p = c.args.parted.now in
    let f = is_closed p.duration p.division.parts p.division.unit p.first in
    let none : drop c.loop-start.start-index p.starts.now ≡ [] =
    drop_all c.loop-start.start-index p.starts.now (omega (arith, c.loop-start-test.false)) in
    omega (
      arith,
      ap (λ l. count_by f (neighbours (behind c.loop-start.before l))) none,
      behind-none c.loop-start.before f,
      c.loop-start.invariant.so_far,
    )
