use Rattle.std.proofs.Common.{get_or, refl}
use Rattle.std.specs.List.{AllByRecursion}
use Rattle.edf_header.specs.Fields.{fields}
use Rattle.edf_mend.specs.Header.{StaysField}
use Rattle.edf_mend.proofs.Rows.{all-more, one-of, all-whole}
use Rattle.edf_mend.proofs.Tests.{says-no, is-not}
use Rattle.edf_mend.proofs.mark.stays_fields.Goals as goal

pub loop-at-init : goal.loop-at-init
loop-at-init c = tt

pub loop-at-preserved : goal.loop-at-preserved
loop-at-preserved c = all-more (StaysField c.args.old.now c.args.new.now) fields c.loop-at.at-index
    (0, 0) c.loop-at-test.true c.loop-at.invariant
    ((rw (c.field_at-was.ensures, c.field_at.ensures) at c.in_ok-is_spaced.ensures).0
    c.if-not-branch.false)

pub returns : goal.returns
returns c = (
  λ t. all-whole (StaysField c.args.old.now c.args.new.now) fields c.loop-at.at-index
      c.loop-at-test.false c.loop-at.invariant,
  λ all. refl,
)

pub returns-then-not-branch : goal.returns-then-not-branch
returns-then-not-branch c =
    let same = StaysField c.args.old.now c.args.new.now in
    says-no _ (AllByRecursion same fields) refl
    (λ all. is-not _ (same (get_or fields c.loop-at.at-index (0, 0))) c.if-not-branch.true
    (rw (c.field_at-was.ensures, c.field_at.ensures) at c.in_ok-is_spaced.ensures)
    (one-of same fields c.loop-at.at-index (0, 0) c.loop-at-test.true all))
