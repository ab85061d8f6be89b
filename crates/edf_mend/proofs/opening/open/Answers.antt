use Rattle.std.proofs.Common.{refl}
use Rattle.edf_mend.proofs.Written.{opens}
use Rattle.edf_mend.proofs.opening.open.Goals as goal

pub returns : goal.returns
returns g c = opens g.R.Input c.args.wanted.now c.args.input.now c.read_first.new.input
    c.read_second.new.input _ c.as_slice-second.result.now c.in_ok-second.second.items
    c.in_ok-header.ensures c.as_slice-second.ensures.value c.in_ok-first.ensures
    c.in_ok-second.ensures.0 refl refl
