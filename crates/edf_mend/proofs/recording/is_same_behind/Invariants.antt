use Rattle.std.proofs.Common.{◌≡◌, ◌++◌, List, ℕ}
use Rattle.edf_field.specs.Text.{subfields}
use Rattle.edf_mend.proofs.recording.is_same_behind.Given as goal

abbrev pub invariant-loop : goal.invariant-loop
invariant-loop l = (done : List (List ℕ)) × (subfields l.old ≡ done ++ subfields l.left)
    × (subfields l.new ≡ done ++ subfields l.right)
