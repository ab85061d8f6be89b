-- What the writer of a header appends, one part after another, and the parts of an identity.
use Rattle.std.proofs.Common.{◌≡◌, ℕ, ◌+◌, ◌-◌, ◌/◌, ◌≤◌, List, [], ◌∷◌, ◌++◌, length, take, drop}
use Rattle.std.proofs.Common.{append_assoc, ap, ◌∙◌, arith}
use Rattle.std.proofs.lemmas.List.{replicate_more, take_all, length-drop}
use Rattle.edf_field.specs.Text.{spaces}
use Rattle.edf_header.specs.Signal.{rows, rows_of}
use Rattle.edf_header.specs.Key.{Key, key_at}

pub spaces-more : (start old new : List ℕ) (i : ℕ) → old ≡ start ++ spaces i → new ≡ old
    ++ 32 ∷ [] → new ≡ start ++ spaces (i + 1)
spaces-more start old new i was is =
    is ∙ ap (λ (l : List ℕ). l ++ 32 ∷ []) was ∙ append_assoc start (spaces i) (32 ∷ [])
    ∙ ap (λ (l : List ℕ). start ++ l) (replicate_more i 32)

pub spaces-end : (start old : List ℕ) (i count : ℕ) → old ≡ start ++ spaces i → count ≤ i →
    i ≤ count → old ≡ start ++ spaces count
spaces-end start old i count was past upto =
    let e : i ≡ count = omega arith in
    was ∙ ap (λ (n : ℕ). start ++ spaces n) e

-- the rows after the first 158 bytes of an identity
pub rows-after : (b : List ℕ) (k : Key) → key_at b ≡ k →
    rows_of (take (length b - 158) (drop 158 b)) ≡ k.signals
rows-after b k is =
    let all : take (length b - 158) (drop 158 b) ≡ drop 158 b =
    take_all (length b - 158) (drop 158 b) (omega (arith, length-drop 158 b)) in
    ap rows_of all ∙ ap (λ (n : ℕ). rows (n / 256) (drop 158 b)) (length-drop 158 b)
    ∙ ap (λ (k : Key). k.signals) is
