use Rattle.std.proofs.Common.{ap, ◌∙◌}
use Rattle.edf_header.specs.Key.{Key, patient_code}
use Rattle.edf_mend.specs.Texts.{first_subfield}
use Rattle.edf_mend.proofs.Named.{given-code}
use Rattle.edf_mend.proofs.laws.given_code_is_read.Goals as goal

pub returns : goal.returns
returns c = λ w code a key rs n gives x.
    ap (λ (k : Key). patient_code k) x.key_is
    ∙ ap first_subfield x.header.is_fixed.patient
    ∙ given-code w code _ _ gives x.header.fixed.kept.patient
