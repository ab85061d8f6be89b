use Rattle.std.proofs.Common.{◌≡◌, ◌∷◌, take}
use Rattle.std.specs.List.{flat_map}
use Rattle.edf_tal.specs.Canonical.{tal_text, time_keeping_annotation}
use Rattle.edf_tal.proofs.write.write_block.Given as goal

abbrev pub invariant-loop-note : goal.invariant-loop-note
invariant-loop-note l = l.block.items ≡ flat_map (tal_text l.base)
    (time_keeping_annotation l.fn.start ∷ take l.note-index l.notes)
