-- Rows, one after another, and their columns.
use Rattle.std.proofs.Common.{◌≡◌, ℕ, zero, suc, ◌+◌, ◌-◌, ◌*◌, ◌/◌, ◌≤◌, ◌<◌, List, [], ◌∷◌, ◌++◌}
use Rattle.std.proofs.Common.{length, get_or, take, drop, mul-le-mul_left, mul-le-mul_right}
use Rattle.std.proofs.Common.{length-append, arith, refl, sym, ap, subst, ◌∙◌}
use Rattle.std.proofs.lemmas.List.{drop-drop, flat_map_more, take_more, take_all, get_or_default}
use Rattle.std.proofs.lemmas.List.FromFn.{length-map-range_with_len, get_or-map-range_with_len}
use Rattle.std.specs.Prelude.{All, Option, Some, None, MatchOption}
use Rattle.std.specs.List.{flat_map, AllWithin, HoldsAt}
use Rattle.edf_header.proofs.Strides.{Tiles, tiles-fit, length-field}
use Rattle.std.proofs.lemmas.Slice.{take-put_mid}
use borrow.Rule.Slice.PartMut.{put_mid}
use Rattle.std.proofs.lemmas.List.Elements.{AllWithin-more, All-from_all_within}
use Rattle.edf_field.specs.Number.{field}
use Rattle.edf_header.specs.Fields.{fields}
use Rattle.edf_header.specs.Signal.{IsFirstBad, column_of, row_at, row_by, rows, rows_of}
use Rattle.edf_header.specs.Signal.{signals_of}

pub length-rows : (n : ℕ) (bytes : List ℕ) → length (rows n bytes) ≡ n
length-rows zero bytes = refl
length-rows (suc n) bytes = ap suc (length-rows n (drop 256 bytes))

pub row-is : (n : ℕ) (bytes : List ℕ) (i : ℕ) → i < n →
    get_or (rows n bytes) i [] ≡ field bytes (256 * i) 256
row-is zero bytes i lt = absurd (omega arith)
row-is (suc n) bytes zero lt = refl
row-is (suc n) bytes (suc i) lt =
    let e : 256 + 256 * i ≡ 256 * suc i = omega arith in
    row-is n (drop 256 bytes) i (omega arith) ∙ ap (take 256) (drop-drop (256 * i) 256 bytes)
    ∙ ap (λ (k : ℕ). field bytes k 256) e

-- a range, as a slice of it is written
pub range-field : (bytes : List ℕ) (at end len : ℕ) → at + len ≡ end →
    take (end - at) (drop at bytes) ≡ field bytes at len
range-field bytes at end len e = let d : end - at ≡ len = omega arith in rw d refl

-- the column of one row more
pub column-step : (bytes row : List ℕ) (at width i : ℕ) (start old new : List ℕ) →
    i < length bytes / 256 → row ≡ get_or (rows_of bytes) i []
    → old ≡ start ++ column_of (at, width) (take i (rows_of bytes))
    → new ≡ old ++ take (at + width - at) (drop at row)
    → new ≡ start ++ column_of (at, width) (take (i + 1) (rows_of bytes))
column-step bytes row at width i start old new lt row-is was is =
    let rs : List (List ℕ) = rows_of bytes in
    let inside : i < length rs = omega (arith, length-rows (length bytes / 256) bytes) in
    let part : take (at + width - at) (drop at row) ≡ field (get_or rs i []) at width =
    range-field row at (at + width) width refl ∙ ap (λ (r : List ℕ). field r at width) row-is in
    is ∙ ap (λ (l : List ℕ). l ++ take (at + width - at) (drop at row)) was
    ∙ ap (λ (l : List ℕ). (start ++ column_of (at, width) (take i rs)) ++ l) part
    ∙ flat_map_more (λ row. field row at width) start (take i rs) (get_or rs i [])
    ∙ ap (λ (l : List (List ℕ)). start ++ column_of (at, width) l) (sym (take_more rs i [] inside))

-- and the last
pub column-end : (bytes last : List ℕ) (at width i : ℕ) (start old new : List ℕ) →
    length bytes / 256 ≤ i
    → old ≡ start ++ column_of (at, width) (take i (rows_of bytes)) → new ≡ old
    ++ take (at + width - at) (drop at last)
    → new ≡ start ++ column_of (at, width) (rows_of bytes ++ last ∷ [])
column-end bytes last at width i start old new past was is =
    let rs : List (List ℕ) = rows_of bytes in
    let all : take i rs ≡ rs =
    take_all i rs (omega (arith, length-rows (length bytes / 256) bytes)) in
    is ∙ ap (λ (l : List ℕ). l ++ take (at + width - at) (drop at last)) (was
    ∙ ap (λ (l : List (List ℕ)). start ++ column_of (at, width) l) all)
    ∙ ap (λ (l : List ℕ). (start ++ column_of (at, width) rs)
    ++ l) (range-field last at (at + width) width refl)
    ∙ flat_map_more (λ row. field row at width) start rs last

-- one field more, of any table of fields
pub parts-step : {X : Type 0} (g : X → List ℕ) (xs : List X) (i : ℕ) (d : X)
    (start old new : List ℕ) → i < length xs
    → old ≡ start ++ flat_map g (take i xs) → new ≡ old ++ g (get_or xs i d) → new ≡ start
    ++ flat_map g (take (i + 1) xs)
parts-step g xs i d start old new lt was is =
    is ∙ ap (λ (l : List ℕ). l ++ g (get_or xs i d)) was
    ∙ flat_map_more g start (take i xs) (get_or xs i d)
    ∙ ap (λ (l : List _). start ++ flat_map g l) (sym (take_more xs i d lt))

pub parts-end : {X : Type 0} (g : X → List ℕ) (xs : List X) (i : ℕ) (start old : List ℕ) →
    length xs ≤ i
    → old ≡ start ++ flat_map g (take i xs) → old ≡ start ++ flat_map g xs
parts-end g xs i start old past was = was
    ∙ ap (λ (l : List _). start ++ flat_map g l) (take_all i xs past)

-- the ith part of a column lies within all columns
pub column-fits : (n i at width : ℕ) → i < n → at + width ≤ 256 →
    n * at + i * width + width ≤ 256 * n
column-fits n i at width lt fits =
    let up : suc i ≤ n = omega arith in
    let a : suc i * width ≤ n * width = mul-le-mul_right width up in
    let b : n * (at + width) ≤ n * 256 = mul-le-mul_left n fits in
    omega (arith, a, b)

length-row : (fs : List (ℕ × ℕ)) (place : ℕ) (bytes : List ℕ) (n i : ℕ) → Tiles place fs →
    length bytes ≡ 256 * n → i < n → length (row_by fs bytes n i) + place ≡ 256
length-row [] place bytes n i tiles len lt = omega arith
length-row (f ∷ fs) place bytes n i tiles len lt =
    let fit : place + f.1 ≤ 256 = tiles-fit (place + f.1) fs tiles.1 in
    let at-is : f.0 ≡ place = tiles.0 in
    let in' = column-fits n i f.0 f.1 lt (omega arith) in
    let one : length (field bytes (n * f.0 + i * f.1) f.1) ≡ f.1 =
    length-field bytes (n * f.0 + i * f.1) f.1 (omega (arith, in')) in
    omega (
      arith,
      one,
      length-append (field bytes (n * f.0 + i * f.1) f.1) (row_by fs bytes n i),
      length-row fs (place + f.1) bytes n i tiles.1 len lt,
    )

pub tiles : Tiles 0 fields
tiles = (refl, (refl, (refl, (refl, (refl, (refl, (refl, (refl, (refl, (refl, refl))))))))))

pub sized-signals : (bytes : List ℕ) (n : ℕ) → length bytes ≡ 256 * n →
    All (λ s. length s ≡ 256) (signals_of bytes n)
sized-signals bytes n len k d lt =
    let inside : k < n = omega (arith, length-map-range_with_len (row_at bytes n) 0 n) in
    rw (get_or-map-range_with_len (row_at bytes n) 0 n k k d inside (omega arith))
    (omega (arith, length-row fields 0 bytes n k tiles len inside))

-- the rows of all signals, one by one
pub row-at : (bytes : List ℕ) (n i : ℕ) → i < n →
    get_or (signals_of bytes n) i [] ≡ row_at bytes n i
row-at bytes n i lt = get_or-map-range_with_len (row_at bytes n) 0 n i i [] lt (omega arith)

pub length-signals : (bytes : List ℕ) (n : ℕ) → length (signals_of bytes n) ≡ n
length-signals bytes n = length-map-range_with_len (row_at bytes n) 0 n

pub length-one : (bytes : List ℕ) (n i : ℕ) → length bytes ≡ 256 * n → i < n →
    length (row_at bytes n i) ≡ 256
length-one bytes n i len lt = omega (arith, length-row fields 0 bytes n i tiles len lt)

-- a row that is filled field by field: where the next field goes, and one field more
place-of : (fs : List (ℕ × ℕ)) (place : ℕ) (bytes : List ℕ) (n i k : ℕ) → Tiles place fs →
    length bytes ≡ 256 * n → i < n → k < length fs
    → length (row_by (take k fs) bytes n i) + place ≡ (get_or fs k (0, 0)).0
place-of [] place bytes n i k ts len lt inside = absurd (omega arith)
place-of (f ∷ fs) place bytes n i zero ts len lt inside = let at-is : f.0 ≡ place = ts.0 in
    omega arith
place-of (f ∷ fs) place bytes n i (suc k) ts len lt inside =
    let fit : place + f.1 ≤ 256 = tiles-fit (place + f.1) fs ts.1 in
    let at-is : f.0 ≡ place = ts.0 in
    let one : length (field bytes (n * f.0 + i * f.1) f.1) ≡ f.1 =
    length-field bytes (n * f.0 + i * f.1) f.1
    (omega (arith, column-fits n i f.0 f.1 lt (omega arith))) in
    let more : length (row_by (take k fs) bytes n i) + (place + f.1) ≡ (get_or fs k (0, 0)).0 =
    place-of fs (place + f.1) bytes n i k ts.1 len lt (omega arith) in
    omega (
      arith,
      one,
      more,
      length-append (field bytes (n * f.0 + i * f.1) f.1)
          (row_by (take k fs) bytes n i),
    )

fit-of : (fs : List (ℕ × ℕ)) (place k : ℕ) → Tiles place fs → k < length fs →
    (get_or fs k (0, 0)).0 ≤ 256
fit-of [] place k ts inside = absurd (omega arith)
fit-of (f ∷ fs) place zero ts inside = let at-is : f.0 ≡ place = ts.0 in
    omega (arith, tiles-fit (place + f.1) fs ts.1)
fit-of (f ∷ fs) place (suc k) ts inside = fit-of fs (place + f.1) k ts.1 (omega arith)

pub row-step : (bytes row part : List ℕ) (n i k room : ℕ) → length bytes ≡ 256 * n → i < n →
    k < 10 → length row ≡ 256
    → take (length (row_by (take k fields) bytes n i)) row ≡ row_by (take k fields) bytes n i
    → part ≡ field bytes (n * (get_or fields k (0, 0)).0 + i * (get_or fields k (0, 0)).1)
    (get_or fields k (0, 0)).1
    → take (length (row_by (take (k + 1) fields) bytes n i))
    (put_mid (get_or fields k (0, 0)).0 room row part) ≡ row_by (take (k + 1) fields) bytes n i
row-step bytes row part n i k room len lt inside long was is =
    let fits : (get_or fields k (0, 0)).0 ≤ length row =
    omega (arith, fit-of fields 0 k tiles inside) in
    let at : ℕ = (get_or fields k (0, 0)).0 in
    let done : List ℕ = row_by (take k fields) bytes n i in
    let place : length done ≡ at = omega (
      arith,
      place-of fields 0 bytes n i k tiles len lt inside,
    ) in
    let more : row_by (take (k + 1) fields) bytes n i ≡ done ++ part =
    ap (λ (l : List (ℕ × ℕ)). row_by l bytes n i) (take_more fields k (0, 0) inside)
    ∙ sym (flat_map_more (λ f. field bytes (n * f.0 + i * f.1) f.1) [] (take k fields)
    (get_or fields k (0, 0)))
    ∙ ap (λ (l : List ℕ). done ++ l) (sym is) in
    let front : take at row ≡ done = ap (λ (m : ℕ). take m row) (sym place) ∙ was in
    let cut : take (length (done ++ part)) (put_mid at room row part) ≡ take at row ++ part =
    take-put_mid at room row part (length (done ++ part))
    (omega (arith, length-append done part)) fits in
    ap (λ (l : List ℕ). take (length l) (put_mid at room row part)) more ∙ cut
    ∙ ap (λ (l : List ℕ). l ++ part) front ∙ sym more

pub row-end : (bytes row : List ℕ) (n i k : ℕ) → length bytes ≡ 256 * n → i < n → 10 ≤ k →
    length row ≡ 256
    → take (length (row_by (take k fields) bytes n i)) row ≡ row_by (take k fields) bytes n i →
    row ≡ row_at bytes n i
row-end bytes row n i k len lt past long was =
    let all : row_by (take k fields) bytes n i ≡ row_at bytes n i =
    ap (λ (l : List (ℕ × ℕ)). row_by l bytes n i) (take_all k fields past) in
    let size : length row ≤ length (row_by (take k fields) bytes n i) =
    omega (arith, ap length all, length-one bytes n i len lt) in
    sym (take_all (length (row_by (take k fields) bytes n i)) row size) ∙ was ∙ all

-- a row as a loop slices it
pub row-one : (bytes : List ℕ) (i : ℕ) → i < length bytes / 256
    → (i < length (rows_of bytes))
    × (take (256 * i + 256 - 256 * i) (drop (256 * i) bytes) ≡ get_or (rows_of bytes) i [])
row-one bytes i lt = (
  omega (arith, length-rows (length bytes / 256) bytes),
  range-field bytes (256 * i) (256 * i + 256) 256 refl
      ∙ sym (row-is (length bytes / 256) bytes i lt),
)

-- the loop that looks for the first bad member: one more good one, a bad one, and the end
pub good-more : (P : List ℕ → Type 0) (ss : List (List ℕ)) (i : ℕ) (r : List ℕ) → i < length ss →
    r ≡ get_or ss i [] → AllWithin P ss 0 i → P r → AllWithin P ss 0 (i + 1)
good-more P ss i r lt is all here =
    AllWithin-more P ss 0 i all (λ d. subst P (is ∙ get_or_default ss i [] d lt) here)

pub bad-here : (P : List ℕ → Type 0) (ss : List (List ℕ)) (i : ℕ) (r : List ℕ) → i < length ss →
    r ≡ get_or ss i [] → AllWithin P ss 0 i → (P r → ⊥) → IsFirstBad P ss i
bad-here P ss i r lt is all here = record {
  within = lt;
  bad = λ d held. here (subst P (get_or_default ss i d [] lt ∙ sym is) held);
  good = all;
}

pub all-good : (P : List ℕ → Type 0) (ss : List (List ℕ)) (i : ℕ) → length ss ≤ i →
    AllWithin P ss 0 i → All P ss
all-good P ss i past all k d lt = all k d (omega arith) (omega arith)

-- a signal of a header
pub one-at : (ss : List (List ℕ)) (n i : ℕ) (r : List ℕ) → i < n → n ≡ length ss →
    r ≡ get_or ss i [] → (i < length ss) × (r ≡ get_or ss i [])
one-at ss n i r lt count is = (omega (arith, lt, count), is)

-- what `position` answers, in the words of the first bad member
pub first-from-position : {X : Type 0} (P : X → Type 0) (xs : List X) (r : Option ℕ) →
    MatchOption r (AllWithin P xs 0 (length xs)) (λ i. (i < length xs) × HoldsAt (λ x. ¬ P x) xs i
    × AllWithin P xs 0 i)
    → MatchOption r (All P xs) (IsFirstBad P xs)
first-from-position P xs None h = All-from_all_within P xs h
first-from-position P xs (Some i) h = record { within = h.0; bad = h.1; good = h.2 }
