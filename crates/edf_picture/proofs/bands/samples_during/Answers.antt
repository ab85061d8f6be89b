use Rattle.std.proofs.Common.{◌≡◌, ◌+◌, ◌-◌, ◌*◌, ◌/◌, min}
use Rattle.edf_picture.proofs.During.{is-met, meets}
use Rattle.edf_picture.proofs.bands.samples_during.Goals as goal

pub returns : goal.returns
returns c =
    let length = c.args.time.0 in
    let offset = c.args.time.1 in
    let duration = c.args.time.2 in
    let count = c.args.count in
    let column = c.args.column in
    let from : c.min.result ≡ min ((length * count * column - offset * count * 1000)
    / (duration * 1000)) count = cc in
    let to : c.min-2.result ≡ min (((length * count * (column + 1) - offset * count * 1000)
    + (duration * 1000 - 1)) / (duration * 1000)) count = cc in
    λ nth few. (
      λ h. meets length offset duration count column _ _ c.requires.duration from to nth few
          h.0 h.1,
      λ met. is-met length offset duration count column _ _ c.requires.duration from to nth few met,
    )
