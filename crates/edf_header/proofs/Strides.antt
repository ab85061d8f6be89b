-- Signals in columns, and back in rows.
use Rattle.std.proofs.Common.{◌≡◌, ℕ, zero, suc, ◌+◌, ◌*◌, ◌≤◌, ◌<◌, List, [], ◌∷◌, ◌++◌, length}
use Rattle.std.proofs.Common.{get_or, take, drop, arith, refl, sym, ap, ◌∙◌, append_assoc}
use Rattle.std.proofs.Common.{length-append}
use Rattle.std.proofs.lemmas.List.{take_at, drop_at, take-append-drop, drop-drop, length-take}
use Rattle.std.proofs.lemmas.List.{length-drop, drop_all}
use Rattle.std.proofs.lemmas.List.FromFn.{fill_by_all}
use Rattle.std.proofs.lemmas.List.Elements.{All-head, All-tail, All-get_or, All-weaker}
use Rattle.std.specs.Prelude.{All}
use Rattle.std.specs.List.{flat_map}
use Rattle.edf_field.specs.Number.{field}
use Rattle.edf_header.specs.Fields.{fields}
use Rattle.edf_header.specs.Signal.{column_of, columns, columns_by, row_at, row_by, signals_of}

-- a part of the parts joined
pub part-at : {X : Type 0} (f : X → List ℕ) (w : ℕ) (xs : List X) (i : ℕ) (d : X) (rest : List ℕ) →
    All (λ x. length (f x) ≡ w) xs → i < length xs →
    take w (drop (i * w) (flat_map f xs ++ rest)) ≡ f (get_or xs i d)
part-at f w [] i d rest each lt = absurd (omega arith)
part-at f w (x ∷ xs) zero d rest each lt =
    let e : zero * w ≡ 0 = omega arith in
    rw (e, append_assoc) (take_at (f x) (flat_map f xs
    ++ rest) w (All-head (λ x. length (f x) ≡ w) x xs each))
part-at f w (x ∷ xs) (suc i) d rest each lt =
    let e : suc i * w ≡ w + i * w = omega arith in
    rw (
      e,
      append_assoc,
      ← drop-drop (i * w) w (f x ++ (flat_map f xs ++ rest)),
      drop_at (f x) (flat_map f xs ++ rest) w (All-head (λ x. length (f x) ≡ w) x xs each),
    )
    (part-at f w xs i d rest (All-tail (λ x. length (f x) ≡ w) x xs each) (omega arith))

pub length-parts : {X : Type 0} (f : X → List ℕ) (w : ℕ) (xs : List X) →
    All (λ x. length (f x) ≡ w) xs → length (flat_map f xs) ≡ length xs * w
length-parts f w [] each = omega arith
length-parts f w (x ∷ xs) each =
    omega (
      arith,
      length-append (f x) (flat_map f xs),
      All-head (λ x. length (f x) ≡ w) x xs each,
      length-parts f w xs (All-tail (λ x. length (f x) ≡ w) x xs each),
    )

-- the fields are side by side from here to the end
abbrev pub Tiles : ℕ → List (ℕ × ℕ) → Type 0
Tiles at [] = at ≡ 256
Tiles at (f ∷ fs) = (f.0 ≡ at) × Tiles (at + f.1) fs

pub tiles-fit : (at : ℕ) (fs : List (ℕ × ℕ)) → Tiles at fs → at ≤ 256
tiles-fit at [] t = omega arith
tiles-fit at (f ∷ fs) t = omega (arith, tiles-fit (at + f.1) fs t.1)

pub cut : (bytes : List ℕ) (at len : ℕ) → field bytes at len
    ++ drop (at + len) bytes ≡ drop at bytes
cut bytes at len = rw (← drop-drop len at bytes) (take-append-drop len (drop at bytes))

pub length-field : (bytes : List ℕ) (at len : ℕ) → at + len ≤ length bytes →
    length (field bytes at len) ≡ len
length-field bytes at len fits = omega (
  arith,
  length-take len (drop at bytes),
  length-drop at bytes,
)

-- one field of one signal, read from all columns
field-back : (f : ℕ × ℕ) (ss : List (List ℕ)) (i : ℕ) (pre rest : List ℕ) →
    All (λ s. length s ≡ 256) ss → f.0 + f.1 ≤ 256 → i < length ss → length pre ≡ length ss * f.0
    → field (pre ++ (column_of f ss ++ rest)) (length ss * f.0 + i * f.1) f.1 ≡ field
    (get_or ss i []) f.0 f.1
field-back f ss i pre rest each fits lt place =
    rw (
      ← drop-drop (i * f.1) (length ss * f.0) (pre ++ (column_of f ss ++ rest)),
      drop_at pre (column_of f ss ++ rest) (length ss * f.0) place,
    )
    (part-at (λ s. field s f.0 f.1) f.1 ss i [] rest
    (All-weaker (λ (s : List ℕ). length s ≡ 256) (λ (s : List ℕ). length (field s f.0 f.1) ≡ f.1)
    (λ s e. length-field s f.0 f.1 (omega arith)) ss each) lt)

row-back : (fs : List (ℕ × ℕ)) (at : ℕ) (ss : List (List ℕ)) (i : ℕ) (pre : List ℕ) → Tiles at fs →
    All (λ s. length s ≡ 256) ss → i < length ss → length pre ≡ length ss * at
    → row_by fs (pre ++ columns_by fs ss) (length ss) i ≡ drop at (get_or ss i [])
row-back [] at ss i pre tiles each lt place =
    let e : length (get_or ss i []) ≡ 256 =
    All-get_or (λ (s : List ℕ). length s ≡ 256) ss i [] lt each in
    sym (drop_all at (get_or ss i []) (omega arith))
row-back (f ∷ fs) at ss i pre tiles each lt place =
    let col = column_of f ss in
    let fit : at + f.1 ≤ 256 = tiles-fit (at + f.1) fs tiles.1 in
    let at-is : f.0 ≡ at = tiles.0 in
    let fits : f.0 + f.1 ≤ 256 = omega arith in
    let here : length pre ≡ length ss * f.0 = rw at-is place in
    let len : length col ≡ length ss * f.1 = length-parts (λ s. field s f.0 f.1) f.1 ss
    (All-weaker (λ (s : List ℕ). length s ≡ 256) (λ (s : List ℕ). length (field s f.0 f.1) ≡ f.1)
    (λ s e. length-field s f.0 f.1 (omega arith)) ss each) in
    let one = field-back f ss i pre (columns_by fs ss) each fits lt here in
    let next : length (pre ++ col) ≡ length ss * (at + f.1) =
    omega (arith, length-append pre col) in
    let more = row-back fs (at + f.1) ss i (pre ++ col) tiles.1 each lt next in
    let same : (pre ++ col) ++ columns_by fs ss ≡ pre ++ (col ++ columns_by fs ss) =
    append_assoc pre col (columns_by fs ss) in
    let rest : row_by fs (pre ++ (col ++ columns_by fs ss)) (length ss) i ≡ drop (at + f.1)
    (get_or ss i []) = ap (λ b. row_by fs b (length ss) i) (sym same) ∙ more in
    let row = get_or ss i [] in
    ap (λ (l : List ℕ). l ++ row_by fs (pre ++ (col ++ columns_by fs ss)) (length ss) i) one
    ∙ ap (λ (l : List ℕ). field row f.0 f.1 ++ l) rest
    ∙ ap (λ (k : ℕ). field row k f.1 ++ drop (at + f.1) row) at-is
    ∙ cut row at f.1

-- what was written in columns reads back
pub signals-back : (ss : List (List ℕ)) → All (λ s. length s ≡ 256) ss →
    signals_of (columns ss) (length ss) ≡ ss
signals-back ss each =
    sym (fill_by_all (row_at (columns ss) (length ss)) ss (length ss) [] refl
    (λ k lt. sym (row-back fields 0 ss k [] (
      refl,
      (refl, (refl, (refl, (refl, (refl, (refl, (refl, (refl, (refl, refl))))))))),
    ) each lt
    (omega arith))))
