use Rattle.std.proofs.Common.{◌≡◌, ◌∷◌, ◌++◌, map, take}
use Rattle.std.specs.List.{flat_map}
use Rattle.edf_page.specs.Night.{pieces_of_one, taken_lines}
use Rattle.edf_page_exports.proofs.pieces.pieces_of_night.Given as goal

abbrev pub invariant-loop-recording : goal.invariant-loop-recording
invariant-loop-recording l = map (λ piece. piece.now) l.pieces.items
    ≡ taken_lines l.fn.night ++ (l.fn.night.listed.items
    ∷ flat_map pieces_of_one (take l.recording-index l.recording-items))
