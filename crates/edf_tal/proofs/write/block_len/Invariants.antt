use Rattle.std.proofs.Common.{◌≡◌, ◌≤◌, ◌+◌, ◌*◌, ◌∷◌, length, take}
use Rattle.std.specs.List.{AllByRecursion, flat_map}
use Rattle.edf_tal.specs.Tal.{IsValidAnnotation}
use Rattle.edf_tal.specs.Canonical.{tal_text, time_keeping_annotation}
use Rattle.edf_tal.proofs.Totals.{text_bytes}
use Rattle.edf_tal.proofs.write.block_len.Given as goal

abbrev pub invariant-loop-note : goal.invariant-loop-note
invariant-loop-note l =
    (l.len ≡ length (flat_map (tal_text l.base) (time_keeping_annotation l.fn.start ∷ take
    l.note-index l.notes))) × (l.len ≤ 45 * (l.note-index + 1) + text_bytes (take l.note-index
    l.notes)) × AllByRecursion IsValidAnnotation (take l.note-index l.notes)
