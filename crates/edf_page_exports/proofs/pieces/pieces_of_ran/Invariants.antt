use Rattle.std.proofs.Common.{◌≡◌, ◌∷◌, map, take}
use Rattle.std.specs.List.{flat_map}
use Rattle.edf_page.specs.Programs.{pieces_of_file}
use Rattle.edf_page_exports.proofs.pieces.pieces_of_ran.Given as goal

abbrev pub invariant-loop-file : goal.invariant-loop-file
invariant-loop-file l = map (λ piece. piece.now) l.pieces.items
    ≡ l.fn.status ∷ l.fn.ran.out.items ∷ l.fn.ran.err.items
    ∷ flat_map pieces_of_file (take l.file-index l.file-items)
