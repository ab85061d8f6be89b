use Rattle.std.proofs.Common.{◌≡◌, ◌+◌, ◌-◌, ◌*◌, ℕ, ap, ◌∙◌, sym, drop, max, rules, arith}
use Rattle.std.proofs.lemmas.List.{drop_all}
use Rattle.edf_runs.specs.FillAnswers.{move_of}
use Rattle.edf_runs.specs.Filled.{place_of}
use Rattle.edf_runs.specs.Inside.Filling.{furthest_from}
use Rattle.edf_runs.proofs.FillCounting.{furthest-more}
use Rattle.edf_runs.proofs.filling.furthest_move.Goals as goal

pub loop-start-preserved : goal.loop-start-preserved
loop-start-preserved c =
    let p = c.args.parted.now in
    let u = p.division.unit in
    let i = c.loop-start.start-index in
    let s : ℕ = c.start-item.result in
    let m = c.loop-start.furthest in
    let more = furthest-more u p.first m p.starts.now i s c.loop-start-test.true c.start-item.is in
    let t = c.nanos-in-loop-start.result in
    let q = c.place_of.result in
    let move : c.apart-nanos.result ≡ move_of u p.first s =
    c.apart-nanos.ensures
    ∙ ap (λ (x : ℕ). (x + q * u - t) + (t - (x + q * u))) c.nanos.ensures.value
    ∙ ap (λ (x : ℕ). (p.first + x * u - t) + (t - (p.first + x * u))) c.place_of.ensures.value
    ∙ ap (λ (x : ℕ). (p.first + place_of u p.first s * u - x)
    + (x - (p.first + place_of u p.first s * u))) c.nanos-in-loop-start.ensures.value in
    let one : c.max-furthest.result ≡ max m c.apart-nanos.result = search rules in
    record {
      so_far = ap (λ (x : ℕ). furthest_from u p.first x (drop (i + 1) p.starts.now))
          (one ∙ ap (λ (x : ℕ). max m x) move)
          ∙ sym more ∙ c.loop-start.invariant.so_far;
      within = omega (arith, one, c.loop-start.invariant.within, c.if-nanos-most.false);
    }

pub returns-clause-furthest : goal.returns-clause-furthest
returns-clause-furthest c =
    let p = c.args.parted.now in
    sym (ap (furthest_from p.division.unit p.first c.loop-start.furthest)
    (drop_all c.loop-start.start-index p.starts.now (omega (arith, c.loop-start-test.false))))
    ∙ c.loop-start.invariant.so_far
