use Rattle.std.proofs.Common.{rules}
use Rattle.edf_fragment.proofs.HeaderParts.{in-header}
use Rattle.edf_fragment.proofs.open_fragment.OpenFragment.read.Goals as goal

pub returns-in_default : goal.returns-in_default
returns-in_default g c = record {
  step = in-header _ _ _ c.in_ok-header.ensures.step;
  counted = search rules;
}
