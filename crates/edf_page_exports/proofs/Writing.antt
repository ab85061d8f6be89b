-- A piece more is laid down, and its size.
use Rattle.std.proofs.Common.{◌≡◌, ℕ, ◌+◌, ◌≤◌, ◌<◌, List, [], ◌∷◌, ◌++◌, Bor, map, length, take}
use Rattle.std.proofs.Common.{drop}
use Rattle.std.proofs.Common.{set, get_or, sym, ap, ◌∙◌, arith, append_assoc, append-nil}
use Rattle.std.specs.List.{flat_map}
use Rattle.std.proofs.lemmas.List.{take_at, drop_more, set_at, map_push}
use Rattle.std.proofs.lemmas.Slice.{drop-append-drop}
use Rattle.std.proofs.lemmas.Grind.{flat_map-append}
use Rattle.edf_page_exports.specs.Laid.{laid}

abbrev pub bytes_of : Bor (List ℕ) → List ℕ
bytes_of piece = piece.now

pub put-more : (old out front piece new : List ℕ) (end : ℕ) → out ≡ front ++ drop end old →
    end ≡ length front → new ≡ take end out ++ (piece ++ drop (end + length piece) out) →
    new ≡ (front ++ piece) ++ drop (end + length piece) old
put-more old out front piece new end is at made =
    made
    ∙ ap (λ (t : List ℕ). t ++ (piece ++ drop (end + length piece) out))
    (ap (take end) is ∙ take_at front (drop end old) end (sym at))
    ∙ ap (λ (d : List ℕ). front ++ (piece ++ d)) (ap (drop (end + length piece)) is
    ∙ drop-append-drop end old front (end + length piece) (omega arith) (sym at))
    ∙ sym (append_assoc front piece (drop (end + length piece) old))

pub set-more : (old now front : List ℕ) (at v : ℕ) → now ≡ front ++ drop at old →
    length front ≡ at → at < length old → set now at v ≡ (front ++ v ∷ []) ++ drop (at + 1) old
set-more old now front at v is len lt =
    ap (λ (l : List ℕ). set l at v) (is ∙ ap (λ (d : List ℕ). front ++ d) (drop_more old at 0 lt))
    ∙ set_at front (get_or old at 0) (drop (at + 1) old) v at len
    ∙ sym (append_assoc front (v ∷ []) (drop (at + 1) old))

-- the bytes and the sizes of one piece more
module _ (ps : List (Bor (List ℕ))) (at : ℕ) (p : Bor (List ℕ))
    (more : take (at + 1) ps ≡ take at ps ++ p ∷ []) where
  pub laid-more :
      laid (map bytes_of (take (at + 1) ps)) ≡ laid (map bytes_of (take at ps)) ++ p.now
  laid-more = ap (λ (l : List (Bor (List ℕ))). laid (map bytes_of l)) more
      ∙ ap laid (map_push bytes_of (take at ps) p)
      ∙ flat_map-append (λ (piece : List ℕ). piece) (map bytes_of (take at ps)) (p.now ∷ [])
      ∙ ap (λ (t : List ℕ). laid (map bytes_of (take at ps)) ++ t) (append-nil p.now)

  pub sizes-more : map length (map bytes_of (take (at + 1) ps))
      ≡ map length (map bytes_of (take at ps)) ++ length p.now ∷ []
  sizes-more = ap (λ (l : List (Bor (List ℕ))). map length (map bytes_of l)) more
      ∙ ap (map length) (map_push bytes_of (take at ps) p)
      ∙ map_push length (map bytes_of (take at ps)) p.now
