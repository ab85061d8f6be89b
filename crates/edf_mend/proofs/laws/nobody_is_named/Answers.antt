use Rattle.std.proofs.Common.{ℕ, List, ap, sym, ◌∙◌, subst, inl, inr}
use Rattle.edf_header.specs.Fields.{patient_field, recording_field, startdate_field}
use Rattle.edf_header.specs.Key.{Key}
use Rattle.edf_mend.specs.Identification.{IsCodeAlone, KeepsPatient, KeepsRecording}
use Rattle.edf_mend.specs.declared.wanted.Who.{Who}
use Rattle.edf_mend.proofs.laws.nobody_is_named.Goals as goal

pub returns : goal.returns
returns c = λ w code a key rs n asked x.
    let alone = subst (λ (o : Who). KeepsPatient o (patient_field x.first)
    (patient_field x.header.strict)) asked x.header.fixed.kept.patient in (
      subst (λ (p : List ℕ). IsCodeAlone code p)
          (sym (ap (λ (k : Key). k.patient) x.key_is ∙ x.header.is_fixed.patient)) alone,
      x.header.text,
      subst (λ (o : Who). KeepsRecording o (startdate_field x.header.strict)
          (recording_field x.first) x.header.text) asked
          x.header.fixed.kept.recording,
      elim x.header.marked [
        | inl stays ↦ inl stays.1
        | inr marked ↦ inr marked.1
      ],
    )
