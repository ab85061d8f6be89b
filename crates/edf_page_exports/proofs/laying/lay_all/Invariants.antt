use Rattle.std.proofs.Common.{◌≡◌, ◌++◌, map, length, take, drop}
use Rattle.edf_page_exports.specs.Laid.{laid}
use Rattle.edf_page_exports.proofs.laying.lay_all.Given as goal

abbrev pub invariant-loop-at : goal.invariant-loop-at
invariant-loop-at l = record {
  end : l.end ≡ length (laid (map (λ piece. piece.now) (take l.at l.pieces)));
  lie : l.out ≡ laid (map (λ piece. piece.now) (take l.at l.pieces)) ++ drop l.end l.fn.out;
  out : length l.out ≡ length l.fn.out;
  sized : l.sizes ≡ map length (map (λ piece. piece.now) (take l.at l.pieces))
      ++ drop l.at l.fn.sizes;
  places : length l.sizes ≡ length l.fn.sizes;
}
