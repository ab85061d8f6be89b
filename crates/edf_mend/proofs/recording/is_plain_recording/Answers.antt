use Rattle.std.proofs.Common.{ℕ, List, refl, subst, ◌∙◌}
use Rattle.edf_field.specs.Fault.{IsRecordingFault}
use Rattle.edf_field.proofs.Cited.{recording-no-fault}
use Rattle.edf_mend.specs.Identification.{IsPlainRecording}
use Rattle.edf_mend.proofs.Tests.{says-no}
use Rattle.edf_mend.proofs.recording.is_plain_recording.Goals as goal

pub returns : goal.returns
returns c = says-no _ (IsPlainRecording c.args.field.now) refl
    (λ p. recording-no-fault _ _ _ c.in-Err.field-0 p.1.2
    (subst (λ (l : List ℕ). IsRecordingFault l c.in-Err.field-0)
    (c.as_slice-2.ensures.value ∙ c.in_ok-text.ensures) c.in-Err.ensures))
