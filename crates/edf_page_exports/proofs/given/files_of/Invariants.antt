use Rattle.std.proofs.Common.{◌≡◌, map, take}
use Rattle.edf_page_exports.proofs.given.files_of.Given as goal

abbrev pub invariant-loop-at : goal.invariant-loop-at
invariant-loop-at l = record {
  names : map (λ file. file.name.now) l.files.items
      ≡ map (λ name. name.now) (take l.at l.names);
  bytes : map (λ file. file.bytes.now) l.files.items
      ≡ map (λ piece. piece.now) (take l.at l.pieces);
}
