use Rattle.std.proofs.Common.{◌≡◌, ◌++◌, length}
use Rattle.edf_field.specs.Text.{subfields}
use Rattle.edf_mend.specs.Texts.{joined_by}
use Rattle.edf_mend.proofs.texts.joined_by.Given as goal

abbrev pub invariant-loop-part : goal.invariant-loop-part
invariant-loop-part l =
    l.joined.items ++ joined_by l.byte (subfields l.left) ≡ joined_by l.byte (subfields l.text)

abbrev pub decreases-loop-part : goal.decreases-loop-part
decreases-loop-part l = length (subfields l.left)
