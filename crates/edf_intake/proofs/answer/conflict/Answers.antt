use Rattle.std.proofs.Common.{Some, sym, ap}
use Rattle.edf_holdings.specs.Reply.{Reply}
use Rattle.edf_intake.proofs.Conflicts.{counts_all, names_clash, clash_told, full_here}
use Rattle.edf_intake.proofs.answer.conflict.Goals as goal

pub returns-in-Some-clause-answer : goal.returns-in-Some-clause-answer
returns-in-Some-clause-answer c key h records spare met =
    clash_told c.args.cap key h records _ c.clash_refusal.result c.clash_refusal.ensures.differs
    c.clash_refusal.ensures.overlaps
    (rw c.in-Some.is (names_clash key h records c.args.findings c.in-Some.starts c.in-Some.is met))

pub returns-then-findings-destination-clause-answer :
    goal.returns-then-findings-destination-clause-answer
returns-then-findings-destination-clause-answer c key h records spare met =
    rw c.saturating_sub.ensures (ap (λ (r : Reply). Some r)
    (sym (full_here c.args.cap c.args.destination.spare key h records c.args.findings
    (counts_all key h records c.args.findings c.in-None.is met)
    spare c.if-findings-destination.true)))
