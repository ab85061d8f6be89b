use Rattle.std.proofs.Common.{List, ℕ, inl, inr, sym, ◌∙◌, subst}
use Rattle.edf_mend.specs.Header.{StaysAll, IsMarked}
use Rattle.edf_mend.proofs.Tests.{is-not}
use Rattle.edf_mend.proofs.mark.is_marked_right.Goals.{then-stays, else-stays+in_ok-field}
use Rattle.edf_mend.proofs.mark.is_marked_right.Goals as goal

pub returns : goal.returns
returns c = λ t.
    let h = c.args.headers.now in
    let stays = StaysAll c.args.wanted.now h.n h.first.now h.second.now c.args.text.now h.count
    h.strict.now h.strict_signals.now in
    let same = c.is_same.ensures.0 t in
    elim c.if-stays.branch [
      | then-stays w ↦ inl (
        c.in_ok-stays.ensures.0 w.if-stays.true,
        same ∙ w.field-is ∙ w.fitted_80-field.ensures,
      )
      | else-stays+in_ok-field w ↦ inr (
        λ all. is-not _ stays w.if-stays.false c.in_ok-stays.ensures all,
        subst (λ (l : List ℕ). IsMarked c.args.text.now l) (sym (same ∙ w.field-is))
            w.in_ok-field.ensures,
      )
    ]
