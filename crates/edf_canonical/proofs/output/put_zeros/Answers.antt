use Rattle.std.proofs.Common.{arith, ◌≡◌, ◌∙◌, ap, sym, ℕ, ◌-◌, ◌++◌, List, replicate, ◌+◌, ◌≤◌}
use Rattle.std.proofs.Common.{take}
use Rattle.std.proofs.lemmas.List.{take-replicate, replicate-append-replicate}
use Rattle.std.proofs.lemmas.Result.{err_from_is_err_and}
use Rattle.edf_canonical.specs.declared.output.TheConstants.{MOST_ZEROS}
use Rattle.edf_canonical.proofs.Puts.{writes-then, writes-same, put-fails-between}
use Rattle.edf_canonical.proofs.output.put_zeros.Goals as goal

zeros-more : (count left piece : ℕ) → piece ≤ left → left ≤ count → piece ≤ MOST_ZEROS
    → replicate {A = ℕ} (count - left) 0
    ++ take piece (replicate {A = ℕ} MOST_ZEROS 0) ≡ replicate {A = ℕ} (count - (left - piece)) 0
zeros-more count left piece low high small =
    ap (λ (l : List ℕ). replicate {A = ℕ} (count - left) 0
    ++ l) (take-replicate piece MOST_ZEROS 0 small)
    ∙ replicate-append-replicate (count - left) piece 0
    ∙ ap (λ n. replicate {A = ℕ} n 0) (let e : (count - left) + piece ≡ count - (left - piece) =
    omega arith in e)

zeros-all : (count left piece : ℕ) → piece ≤ left → left ≤ count → piece ≤ MOST_ZEROS
    → replicate {A = ℕ} count 0 ≡ (replicate {A = ℕ} (count - left) 0
    ++ take piece (replicate {A = ℕ} MOST_ZEROS 0)) ++ replicate {A = ℕ} (left - piece) 0
zeros-all count left piece low high small =
    sym (ap (λ (l : List ℕ). l ++ replicate {A = ℕ} (left - piece) 0)
    (zeros-more count left piece low high small)
    ∙ replicate-append-replicate (count - (left - piece)) (left - piece) 0
    ∙ ap (λ n. replicate {A = ℕ} n 0) (let e : (count - (left - piece)) + (left - piece) ≡ count =
    omega arith in e))

pub loop-left-preserved : goal.loop-left-preserved
loop-left-preserved g c =
    let e = c.in_ok-put.ensures in
    record {
      within = omega arith;
      wrote = writes-same _ _ _ _ _ (zeros-more c.args.count c.loop-left.left c.min-piece.result
          (omega (arith, c.min-piece.ensures)) c.loop-left.invariant.within
          (omega (arith, c.min-piece.ensures)))
          (writes-then _ _ _ _ _ _ c.loop-left.invariant.wrote e.0);
      count_is = e.1 ∙ c.loop-left.invariant.count_is;
    }

pub returns-in_err-put : goal.returns-in_err-put
returns-in_err-put g c =
    let p = err_from_is_err_and c.from_residual.result c.from_residual.ensures.1 in
    rw (p.1, p.2) (put-fails-between _ _ _ _ _ _ _ _ c.loop-left.invariant.wrote
    c.loop-left.invariant.count_is c.in_err-put.ensures
    (zeros-all c.args.count c.loop-left.left c.min-piece.result (omega (arith, c.min-piece.ensures))
    c.loop-left.invariant.within (omega (arith, c.min-piece.ensures))))
