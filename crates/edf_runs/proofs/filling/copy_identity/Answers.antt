use Rattle.std.proofs.Common.{◌∙◌}
use Rattle.edf_header.proofs.Cited.{one-key}
use Rattle.edf_runs.proofs.filling.copy_identity.Goals as goal

pub returns-in-Ok : goal.returns-in-Ok
returns-in-Ok c =
    one-key c.in-Ok.copy c.args.identity.now c.in-Ok.ensures.1 c.in_ok-bytes.ensures.key
    (c.in-Ok.ensures.0 ∙ c.as_slice.ensures.value ∙ c.in_ok-bytes.ensures.bytes)
