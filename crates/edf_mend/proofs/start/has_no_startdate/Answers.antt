use Rattle.std.proofs.Common.{List, ℕ, sym, subst}
use Rattle.edf_mend.specs.Header.{AgreesWithDay}
use Rattle.edf_mend.proofs.Tests.{not-both}
use Rattle.edf_mend.proofs.start.has_no_startdate.Goals as goal

pub returns : goal.returns
returns c = λ t. (
  c.is_no_date.ensures c.if-not-is_no_date.false,
  λ a. not-both _ t (c.in_ok-agreed.ensures.1
      (subst (λ (l : List ℕ). AgreesWithDay c.args.recording.now l) (sym c.dotted.ensures) a)),
)
