use Rattle.std.proofs.Common.{◌≡◌, ◌++◌, map, length, take}
use Rattle.edf_page_exports.specs.Laid.{laid}
use Rattle.edf_page_exports.proofs.given.pieces_in.Given as goal

abbrev pub invariant-loop-size : goal.invariant-loop-size
invariant-loop-size l = record {
  all : l.bytes ≡ laid (map (λ piece. piece.now) l.pieces.items) ++ l.left;
  sized : take l.size-index l.sizes ≡ map length (map (λ piece. piece.now) l.pieces.items);
}
