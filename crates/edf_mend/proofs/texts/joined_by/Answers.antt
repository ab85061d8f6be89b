use Rattle.edf_mend.proofs.Parts.{join-more, join-last}
use Rattle.edf_mend.proofs.texts.joined_by.Goals as goal

pub loop-part-preserved : goal.loop-part-preserved
loop-part-preserved c = join-more _ _ c.in-Some.part.now _ _ _ _ c.loop-part.invariant
    c.in-Some.ensures c.in_ok-push_part.ensures

pub returns : goal.returns
returns c = join-last _ _ _ _ c.loop-part.invariant c.in_default.ensures
