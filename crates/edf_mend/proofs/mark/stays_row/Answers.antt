use Rattle.std.proofs.Common.{inl, inr, refl, ⊎_elim}
use Rattle.edf_header.specs.Signal.{IsLabelled}
use Rattle.edf_mend.proofs.Tests.{is-not}
use Rattle.edf_mend.proofs.mark.stays_row.Goals as goal

pub returns-then-is_labelled : goal.returns-then-is_labelled
returns-then-is_labelled c =
    (λ t. inl (c.is_labelled.ensures.label.0 c.if-is_labelled.true), λ s. refl)

pub returns : goal.returns
returns c = (
  λ t. inr (c.in_ok-stays_fields.ensures.0 t),
  λ s. ⊎_elim (λ l. absurd (is-not _ (IsLabelled c.args.new.now) c.if-is_labelled.false
      c.is_labelled.ensures.label l)) (λ f. c.in_ok-stays_fields.ensures.1 f) s,
)
