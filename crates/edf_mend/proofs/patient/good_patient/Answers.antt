use Rattle.std.proofs.Common.{List, ℕ, inr, sym, subst}
use Rattle.edf_mend.specs.Identification.{GetsCode, KeepsPatient}
use Rattle.edf_mend.specs.declared.wanted.Who.{Who}
use Rattle.edf_mend.proofs.patient.good_patient.Goals as goal

pub returns-in_ok-given_patient-in-Given : goal.returns-in_ok-given_patient-in-Given
returns-in_ok-given_patient-in-Given c =
    let old = c.args.old.now in
    let field = c.in_ok-given_patient-in-Given.field-0 in
    subst (λ (o : Who). KeepsPatient o old field) (sym c.in-Given.is) (inr (
      subst (λ (l : List ℕ). GetsCode l old field) c.as_bytes-in-Given.ensures.text
          c.in_ok-given_patient-in-Given.ensures,
      c.in_ok-check_unused-in-Given.ensures,
    ))
