use Rattle.std.proofs.Common.{Option, IfSome, subst}
use Rattle.edf_intake.specs.Inside.Gap.{IsGap}
use Rattle.edf_intake.specs.declared.gap.Gap.{Gap}
use Rattle.edf_intake.proofs.Gaps.{none_near}
use Rattle.edf_intake.proofs.gap.gap_after.Goals as goal

pub returns-then-ends_by-clause-none_near : goal.returns-then-ends_by-clause-none_near
returns-then-ends_by-clause-none_near c records known =
    none_near c.args.duration c.args.start c.in_ok-gap.gap records
    (c.ends_by-begins_late.ensures.0 c.if-begins_late.true)
    (c.ends_by.ensures.0 c.if-ends_by.true)
    (subst (λ (o : Option Gap). IfSome o (IsGap records)) c.in_ok-gap.was known)
