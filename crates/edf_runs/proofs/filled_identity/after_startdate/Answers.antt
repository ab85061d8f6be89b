use Rattle.std.proofs.Common.{◌≡◌, true, false, rules}
use Rattle.edf_runs.proofs.KeyOfFilled.{after-in}
use Rattle.edf_runs.proofs.filled_identity.after_startdate.Goals as goal

pub returns-then-dated : goal.returns-then-dated
returns-then-dated c =
    let dated : c.args.identity.now.dated ≡ true = search rules in
    after-in c.args.identity.now c.args.bytes.now true c.identity_is_key.ensures c.requires dated

pub returns : goal.returns
returns c =
    let dated : c.args.identity.now.dated ≡ false = search rules in
    after-in c.args.identity.now c.args.bytes.now false c.identity_is_key.ensures c.requires dated
