use Rattle.std.proofs.lemmas.Bool.{iff_false}
use Rattle.edf_header.proofs.signal_checks.passes.Goals as goal

pub returns-else-is_labelled : goal.returns-else-is_labelled
returns-else-is_labelled c =
    rw c.in-Physical.is (
      λ t _. c.has_physical.ensures.0 t,
      λ p. c.has_physical.ensures.1
          (p (iff_false c.is_labelled-in-Physical.ensures.label c.if-is_labelled.false)),
    )
