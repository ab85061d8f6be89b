use Rattle.std.proofs.Common.{List, ℕ, inr, sym, ◌∙◌, subst}
use Rattle.edf_field.specs.Number.{IsPhysical}
use Rattle.edf_mend.proofs.Tests.{is-not}
use Rattle.edf_mend.proofs.number.keeps_number.Goals as goal

pub returns : goal.returns
returns c = λ t. inr (
  λ p. is-not _ (IsPhysical c.as_slice.result.now) c.if-is_physical.false c.is_physical.ensures
      (subst (λ (l : List ℕ). IsPhysical l) (sym (c.as_slice.ensures.value ∙ c.in_ok-text.ensures))
      p),
  c.is_clear.ensures c.if-not-is_clear.false,
  c.in_ok-is_one_number.ensures t,
)
