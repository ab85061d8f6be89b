use Rattle.std.proofs.Common.{inl, inr}
use Rattle.std.proofs.lemmas.Bool.{leb-true}
use Rattle.edf_mend.proofs.mending.count_fits.Goals as goal

pub returns-else-counted-eq0 : goal.returns-else-counted-eq0
returns-else-counted-eq0 c = λ t.
    inr (inr (
      c.if-timed.true,
      inr (
        c.in-Some.counted,
        (rw c.in-Some.is at c.in_ok-counted.ensures).0,
        leb-true _ _ t,
      ),
    ))

pub returns-then-timed-2 : goal.returns-then-timed-2
returns-then-timed-2 c = λ t. inr (inr (c.if-timed-2.true, inl (c.is_uncounted.ensures t)))
