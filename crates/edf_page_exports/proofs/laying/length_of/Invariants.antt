use Rattle.std.proofs.Common.{◌≡◌, ◌-◌, ◌^◌, min, map, length, take}
use Rattle.edf_page_exports.specs.Laid.{laid}
use Rattle.edf_page_exports.proofs.laying.length_of.Given as goal

abbrev pub invariant-loop-piece : goal.invariant-loop-piece
invariant-loop-piece l =
    l.sum
    ≡ min (length (laid (map (λ piece. piece.now) (take l.piece-index l.pieces)))) (2 ^ 64 - 1)
