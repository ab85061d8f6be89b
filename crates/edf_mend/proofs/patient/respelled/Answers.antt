use Rattle.std.proofs.Common.{◌≡◌, ◌≤◌, ◌∷◌, List, ℕ, length, ap, sym, ◌∙◌, subst, arith}
use Rattle.edf_field.specs.Text.{subfields}
use Rattle.edf_mend.specs.Texts.{fitted, spaced}
use Rattle.edf_mend.specs.Identification.{named_text}
use Rattle.edf_mend.proofs.patient.respelled.Goals as goal

pub returns : goal.returns
returns c =
    let code = c.args.code.now in
    let four = c.in-Some.field-0-0.now ∷ c.in-Some.sex.now ∷ c.in-Some.birthdate.now
    ∷ subfields c.in-Some.rest.now in
    let parts : subfields (spaced c.args.field.now) ≡ four =
    subst (λ (l : List ℕ). subfields l ≡ four) (c.as_slice.ensures.value
    ∙ c.in_ok-spaced_text.ensures) c.in-Some.ensures in
    let text-is : c.in_ok-text.text.items ≡ named_text code (subfields (spaced c.args.field.now)) =
    (rw (
      c.as_slice-2.ensures.value ∙ c.in_ok-sex.ensures,
      c.as_slice-3.ensures.value ∙ c.in_ok-birthdate.ensures,
      c.as_slice-4.ensures.value ∙ c.in_ok-names.ensures,
    ) at c.in_ok-text.ensures)
    ∙ sym (ap (named_text code) parts) in (
      subst (λ (l : List ℕ). length l ≤ 80) text-is
          (omega (arith, c.len.ensures, c.if-len-gt80.false, c.in_ok-text.text.ok.0)),
      c.fitted_80.ensures ∙ ap (λ (l : List ℕ). fitted 80 l) (c.as_slice-5.ensures.value ∙ text-is),
    )
