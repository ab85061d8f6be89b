use Rattle.std.proofs.Common.{◌≡◌, ◌+◌, ◌*◌, ℕ, List, Some, ap, arith}
use Rattle.std.proofs.Common.{get_or, max, min, rules, subst, take}
use Rattle.edf_picture.specs.Bands.{IsRange, level, levels}
use Rattle.edf_picture.proofs.Levels.{levels-all, levels-more, widened}
use Rattle.edf_picture.proofs.bands.range_of.Goals as goal

pub loop-nth-preserved : goal.loop-nth-preserved
loop-nth-preserved c =
    let bytes = c.args.bytes.now in
    let n = c.loop-nth.nth in
    let v = level (get_or bytes (2 * n) 0) (get_or bytes (2 * n + 1) 0) in
    let low : c.from.result ≡ get_or bytes (2 * n) 0 = search rules in
    let high : c.from-in-loop-nth.result ≡ get_or bytes (2 * n + 1) 0 = search rules in
    let least : c.min-least.result ≡ min c.loop-nth.least v = cc (c.min-least.ensures, low, high) in
    let greatest : c.max-greatest.result ≡ max c.loop-nth.greatest v =
    cc (c.max-greatest.ensures, low, high) in
    record {
      starts = λ none. absurd (omega arith);
      range = λ some. rw (least, greatest) (widened n (levels (take (2 * n) bytes))
          (levels (take (2 * (n + 1)) bytes)) c.loop-nth.least c.loop-nth.greatest v (omega arith)
          (levels-more n bytes (omega arith))
          (λ none. ap (λ (k : ℕ). levels (take (2 * k) bytes)) none)
          c.loop-nth.invariant.starts c.loop-nth.invariant.range);
    }

pub returns : goal.returns
returns c =
    let bytes = c.args.bytes.now in
    subst (λ (values : List ℕ). IsRange values (Some (record {
      least = c.loop-nth.least;
      greatest = c.loop-nth.greatest;
    }))) (levels-all c.loop-nth.nth bytes (omega arith) (omega arith))
    (c.loop-nth.invariant.range (omega arith))
