use Rattle.std.proofs.Common.{subst}
use Rattle.edf_field.specs.Text.{subfields}
use Rattle.edf_mend.specs.Identification.{AreDated}
use Rattle.edf_mend.proofs.Parts.{one-dated}
use Rattle.edf_mend.proofs.recording.date_in.Goals as goal

pub returns-in_default : goal.returns-in_default
returns-in_default c = λ dated. subst AreDated c.in_default.ensures dated

pub returns-in_default-next_subfield : goal.returns-in_default-next_subfield
returns-in_default-next_subfield c =
    one-dated (subfields c.args.text.now) _ _ c.in-Some.ensures c.in_default-next_subfield.ensures
