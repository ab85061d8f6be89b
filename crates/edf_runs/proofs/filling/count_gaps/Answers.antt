use Rattle.std.proofs.Common.{◌≡◌, ◌+◌, [], drop, arith, ap, Some, ℕ}
use Rattle.std.proofs.Common.{min, get_or, rules, subst, sym}
use Rattle.std.proofs.lemmas.List.{drop_all}
use Rattle.edf_runs.specs.Inside.Filling.{gap_before, gaps_from, GapsWithin}
use Rattle.edf_runs.proofs.FillCounting.{short-more}
use Rattle.edf_runs.proofs.Gaps.{gaps-more}
use Rattle.edf_runs.proofs.filling.count_gaps.Goals as goal

pub loop-start-preserved : goal.loop-start-preserved
loop-start-preserved c =
    let d = c.args.duration in
    let starts = c.args.starts.now in
    let i = c.loop-start.start-index in
    let s = c.start-item.result in
    let at : s ≡ get_or starts i s = search rules in
    let more = gaps-more d c.loop-start.end starts i s c.loop-start-test.true at in
    let one : c.min.result ≡ min (gap_before c.loop-start.end s) 1 = search rules in
    let end = ap (λ x. gaps_from d (Some (x + d)) (drop (i + 1) starts))
    c.nanos-in-loop-start.ensures.value in
    record {
      few = omega (arith, one, c.loop-start.invariant.few);
      so_far = omega (arith, one, more, end, c.loop-start.invariant.so_far);
      short = λ later. c.loop-start.invariant.short (short-more c.args.longest d c.loop-start.end
          starts i s c.loop-start-test.true at (omega (arith, c.if-nanos-longest.false))
          (subst (λ (x : ℕ). GapsWithin c.args.longest d (Some (x + d)) (drop (i + 1) starts))
          c.nanos-in-loop-start.ensures.value later));
    }

pub returns-clause-counted : goal.returns-clause-counted
returns-clause-counted c =
    let i = c.loop-start.start-index in
    let starts = c.args.starts.now in
    let none : drop i starts ≡ [] = drop_all i starts (omega (arith, c.loop-start-test.false)) in
    let over : gaps_from c.args.duration c.loop-start.end (drop i starts) ≡ 0 =
    ap (gaps_from c.args.duration c.loop-start.end) none in
    omega (arith, over, c.loop-start.invariant.so_far)

pub returns-clause-allowed : goal.returns-clause-allowed
returns-clause-allowed c =
    let none : drop c.loop-start.start-index c.args.starts.now ≡ [] =
    drop_all c.loop-start.start-index c.args.starts.now (omega (arith, c.loop-start-test.false)) in
    c.loop-start.invariant.short
    (subst (GapsWithin c.args.longest c.args.duration c.loop-start.end) (sym none) tt)
