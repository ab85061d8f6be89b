use Rattle.std.proofs.Common.{refl}
use Rattle.std.proofs.lemmas.Result.{err_from_is_err_and}
use Rattle.edf_canonical.proofs.Puts.{flush-refused, sends-through, fails-through}
use Rattle.edf_canonical.proofs.output.put_through.Goals as goal

pub returns-in_err-flush : goal.returns-in_err-flush
returns-in_err-flush g c = let p =
    err_from_is_err_and c.from_residual.result c.from_residual.ensures.1 in
    rw (p.1, p.2) (flush-refused _ _ _ _ c.in_err-flush.ensures)

pub returns-then-not-send : goal.returns-then-not-send
returns-then-not-send g c =
    let e = c.if-not-send.ensures in
    fails-through _ _ _ _ e.0 _ c.in_ok-flush.ensures e.2 e.3

pub returns : goal.returns
returns g c =
    let e = c.if-not-send.ensures in
    sends-through _ _ _ _ _ c.in_ok-flush.ensures refl e.0 e.1
