use Rattle.std.proofs.Common.{◌≡◌, ◌++◌, map, take}
use Rattle.edf_page_exports.proofs.pieces.push_lines.Given as goal

abbrev pub invariant-loop-line : goal.invariant-loop-line
invariant-loop-line l = map (λ piece. piece.now) l.pieces.items
    ≡ map (λ piece. piece.now) l.fn.pieces.items
    ++ map (λ line. line.items) (take l.line-index l.lines)
