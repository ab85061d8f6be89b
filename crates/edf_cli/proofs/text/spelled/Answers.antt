use Rattle.std.proofs.Common.{◌<◌, arith}
use Rattle.edf_time.specs.Civil.{window}
use Rattle.edf_time.proofs.Cited.{one-instant_text}
use Rattle.edf_cli.proofs.text.spelled.Goals as goal

pub returns : goal.returns
returns c spell is =
    let within : c.args.instant < window = omega arith in
    one-instant_text c.in_ok-text.text.items (spell c.args.instant) c.args.instant
    c.in_ok-text.ensures (is c.args.instant within)
