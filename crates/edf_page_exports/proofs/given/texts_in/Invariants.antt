use Rattle.std.proofs.Common.{◌≡◌, All, map, take}
use Rattle.std.specs.Str.{IsUtf8}
use Rattle.edf_page_exports.proofs.given.texts_in.Given as goal

abbrev pub invariant-loop-piece : goal.invariant-loop-piece
invariant-loop-piece l = record {
  same : map (λ text. text.now) l.texts.items
      ≡ map (λ piece. piece.now) (take l.piece-index l.piece-items);
  each : All IsUtf8 (map (λ text. text.now) l.texts.items);
}
