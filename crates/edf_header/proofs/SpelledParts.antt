-- Lists one after the other: what all members have, fields in turn, and the columns of rows.
use Rattle.std.proofs.Common.{◌≡◌, ℕ, ◌+◌, ◌*◌, ◌≤◌, List, [], ◌∷◌, ◌++◌, length, take, drop, refl}
use Rattle.std.proofs.Common.{sym, ap, ◌∙◌, subst, arith}
use Rattle.std.specs.Prelude.{All}
use Rattle.std.specs.List.{flat_map}
use Rattle.std.proofs.lemmas.List.{length-append, take_at, drop_at, drop-drop}
use Rattle.std.proofs.lemmas.List.Elements.{All-nil, All-cons, All-head, All-tail, All-append}
use Rattle.std.proofs.lemmas.List.Elements.{All-take, All-drop, All-weaker}
use Rattle.edf_field.specs.Number.{field}
use Rattle.edf_header.specs.Fields.{fields}
use Rattle.edf_header.specs.Signal.{column_of, columns_by, columns}
use Rattle.edf_header.proofs.Strides.{Tiles, tiles-fit, length-parts, length-field}
use Rattle.edf_header.proofs.RowSteps.{tiles}

pub all-left : {X : Type 0} (P : X → Type 0) (xs ys : List X) → All P (xs ++ ys) → All P xs
all-left P xs ys all = subst (All P) (take_at xs ys (length xs) refl)
    (All-take P (length xs) (xs ++ ys) all)

pub all-right : {X : Type 0} (P : X → Type 0) (xs ys : List X) → All P (xs ++ ys) → All P ys
all-right P xs ys all = subst (All P) (drop_at xs ys (length xs) refl)
    (All-drop P (length xs) (xs ++ ys) all)

-- what all members of each part have
pub all-parts : {X Y : Type 0} (P : Y → Type 0) (f : X → List Y) (xs : List X) →
    All (λ x. All P (f x)) xs → All P (flat_map f xs)
all-parts P f [] each = All-nil P
all-parts P f (x ∷ xs) each =
    All-append P (f x) (flat_map f xs) (All-head (λ x. All P (f x)) x xs each)
    (all-parts P f xs (All-tail (λ x. All P (f x)) x xs each))

pub parts-all : {X Y : Type 0} (P : Y → Type 0) (f : X → List Y) (xs : List X) →
    All P (flat_map f xs) → All (λ x. All P (f x)) xs
parts-all P f [] all = All-nil (λ x. All P (f x))
parts-all P f (x ∷ xs) all =
    All-cons (λ x. All P (f x)) x xs (all-left P (f x) (flat_map f xs) all)
    (parts-all P f xs (all-right P (f x) (flat_map f xs) all))

all-field : (P : ℕ → Type 0) (row : List ℕ) (at width : ℕ) → All P row → All P (field row at width)
all-field P row at width all = All-take P width (drop at row) (All-drop P at row all)

all-columns-by : (P : ℕ → Type 0) (fs : List (ℕ × ℕ)) (rows : List (List ℕ)) → All (All P) rows →
    All P (columns_by fs rows)
all-columns-by P [] rows each = All-nil P
all-columns-by P (f ∷ fs) rows each =
    All-append P (column_of f rows) (columns_by fs rows)
    (all-parts P (λ row. field row f.0 f.1) rows
    (All-weaker (All P) (λ row. All P (field row f.0 f.1))
    (λ row all. all-field P row f.0 f.1 all) rows each))
    (all-columns-by P fs rows each)

pub all-columns : (P : ℕ → Type 0) (rows : List (List ℕ)) → All (All P) rows → All P (columns rows)
all-columns P rows each = all-columns-by P fields rows each

length-columns-by : (fs : List (ℕ × ℕ)) (at : ℕ) (rows : List (List ℕ)) → Tiles at fs →
    All (λ s. length s ≡ 256) rows →
    length (columns_by fs rows) + length rows * at ≡ length rows * 256
length-columns-by [] at rows t each = omega (arith, ap (λ n. length rows * n) t)
length-columns-by (f ∷ fs) at rows t each =
    let fit : at + f.1 ≤ 256 = tiles-fit (at + f.1) fs t.1 in
    let at-is : f.0 ≡ at = t.0 in
    let one : length (column_of f rows) ≡ length rows * f.1 =
    length-parts (λ row. field row f.0 f.1) f.1 rows
    (All-weaker (λ s. length s ≡ 256) (λ row. length (field row f.0 f.1) ≡ f.1)
    (λ row e. length-field row f.0 f.1 (omega arith)) rows each) in
    omega (
      arith,
      one,
      length-append (column_of f rows) (columns_by fs rows),
      length-columns-by fs (at + f.1) rows t.1 each,
    )

pub length-columns : (rows : List (List ℕ)) → All (λ s. length s ≡ 256) rows →
    length (columns rows) ≡ 256 * length rows
length-columns rows each = omega (arith, length-columns-by fields 0 rows tiles each)

-- the next part of bytes that are parts, and what is after it
pub record IsPartAt (bytes b c : List ℕ) (at len : ℕ) : Type 0 where
  pub here : field bytes at len ≡ b
  pub rest : drop (at + len) bytes ≡ c

pub part-here : (bytes b c : List ℕ) (at len : ℕ) → drop at bytes ≡ b ++ c → length b ≡ len →
    IsPartAt bytes b c at len
part-here bytes b c at len is lb = record {
  here = ap (take len) is ∙ take_at b c len lb;
  rest = sym (drop-drop len at bytes) ∙ ap (drop len) is ∙ drop_at b c len lb;
}
