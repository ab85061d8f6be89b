use Rattle.std.proofs.Common.{ℕ, List, ◌==◌, refl, ap, ◌∙◌, rules}
use Rattle.std.specs.Prelude.{if◌then◌else◌}
use Rattle.edf_time.specs.Decimal.{short}
use Rattle.edf_field.specs.Text.{padded_to}
use Rattle.edf_header.specs.Key.{key_bytes}
use Rattle.edf_runs.specs.Filled.{IsMarked}
use Rattle.edf_runs.specs.Inside.Renaming.{filled_key}
use Rattle.edf_runs.proofs.KeyOfFilled.{filled-key, duration-long, short-decimals}
use Rattle.edf_runs.proofs.filled_identity.filled_identity.Goals as goal

pub returns-in-Ok : goal.returns-in-Ok
returns-in-Ok c =
    let k = c.args.identity.now in
    let is = c.identity_is_key.ensures in
    let v = c.args.division in
    let after = c.in-Some.after.items in
    let named = if v.parts == 1 then k.duration else padded_to 8 (short v.unit) in
    let marked : IsMarked k.after after = search rules in
    filled-key k c.in-Ok.filled v.parts v.unit after named is c.in-Ok.ensures.1 marked
    (duration-long (v.parts == 1) k.duration (short v.unit) is.sized.duration c.requires.named) refl
    (short-decimals k v.parts is v.some)
    (c.in-Ok.ensures.0 ∙ c.as_slice-3.ensures.value ∙ c.in_ok-new.ensures
    ∙ ap (λ (l : List ℕ). key_bytes (filled_key k l v.parts v.unit)) c.as_slice-2.ensures.value)
