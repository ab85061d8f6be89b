use Rattle.std.proofs.Common.{List, ℕ, inl, ap, sym, ◌∙◌}
use Rattle.edf_mend.specs.Texts.{fitted, unfilled}
use Rattle.edf_mend.proofs.patient.own_patient.Goals as goal

pub returns-then-branch : goal.returns-then-branch
returns-then-branch c = inl (
  c.in_ok-is_plain.ensures.0 c.if-branch.true,
  c.fitted_80.ensures ∙ ap (λ (l : List ℕ). fitted 80 l) c.unfilled.ensures
      ∙ ap (λ (n : ℕ). fitted n (unfilled c.args.old.now)) (sym c.requires),
)
