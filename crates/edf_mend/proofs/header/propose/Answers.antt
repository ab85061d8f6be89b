use Rattle.std.proofs.Common.{◌∙◌, sym, true≢false}
use Rattle.edf_mend.proofs.header.propose.Goals.{then-not-timed+in_ok-check_plain, else-not-timed}
use Rattle.edf_mend.proofs.header.propose.Goals as goal

pub returns : goal.returns
returns c = (
  c.in_ok-fixed.ensures,
  λ plain. elim c.if-not-timed.branch [
    | then-not-timed+in_ok-check_plain w ↦ w.in_ok-check_plain.ensures
    | else-not-timed w ↦ absurd (true≢false (sym w.if-not-timed.false ∙ plain))
  ],
)
