use Rattle.std.proofs.Common.{inl, inr, subst, ◌∙◌, ℕ, List}
use Rattle.edf_field.specs.Number.{field}
use Rattle.edf_mend.specs.Texts.{dimension_rows}
use Rattle.edf_mend.specs.Signal.{KeepsLetters}
use Rattle.edf_mend.proofs.signal.keeps_limits.Goals as goal

pub returns : goal.returns
returns c = λ t. inl (
  c.in_ok-keeps_number.ensures c.if-not-branch.false,
  c.in_ok-keeps_number-2.ensures c.if-not-branch-2.false,
  subst (λ (l : List ℕ). KeepsLetters dimension_rows l (field c.args.new.now 96 8))
      (c.as_slice.ensures.value ∙ c.in_ok-dimension.ensures) (c.in_ok-keeps_letters.ensures t),
)

pub returns-then-branch : goal.returns-then-branch
returns-then-branch c = λ t.
    let one = c.in_ok-are_one.ensures c.if-branch.true in
    inr (one.0, one.1, one.2, c.is_unmeasured.ensures c.if-is_unmeasured.true)
