use Rattle.edf_fragment.proofs.Sound.{sound-next}
use Rattle.edf_fragment.proofs.open_fragment.OpenFragment.advance.Goals as goal

pub returns-clause-sound : goal.returns-clause-sound
returns-clause-sound g c = sound-next _ _ _ _ _ c.header_is_layout.ensures
    c.record_or_end-answer.ensures.read.step
