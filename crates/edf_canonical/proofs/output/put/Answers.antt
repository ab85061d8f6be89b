use Rattle.std.proofs.Common.{arith, ap, ℕ, List, length}
use Rattle.std.proofs.lemmas.Result.{err_from_is_err_and}
use Rattle.edf_canonical.proofs.Puts.{flush-refused, put-flushed}
use Rattle.edf_canonical.proofs.output.put.Goals as goal

pub returns : goal.returns
returns g c = put-flushed _ _ _ _ _ _ c.in_ok-flush.ensures c.hold-2.ensures.put

pub returns-in_err-flush : goal.returns-in_err-flush
returns-in_err-flush g c = let p =
    err_from_is_err_and c.from_residual.result c.from_residual.ensures.1 in
    rw (p.1, p.2) (flush-refused _ _ _ _ c.in_err-flush.ensures)

pub invariant_of-held : goal.invariant_of-held
invariant_of-held g c = record {
  within =
      omega (
        arith,
        c.if-bytes-len.true,
        c.len.ensures,
        c.hold.ensures.grown,
        c.args.held.now.within,
      );
}

pub invariant_of-held-2 : goal.invariant_of-held-2
invariant_of-held-2 g c =
    let f = c.in_ok-flush.ensures in
    let none = ap (λ (l : List ℕ). length l) f.1 in
    record {
      within = omega (
        arith,
        c.if-bytes-ge-MOST_HELD.false,
        c.flush.new.held.bytes.ok.0,
        none,
        c.hold-2.ensures.grown,
      );
    }
