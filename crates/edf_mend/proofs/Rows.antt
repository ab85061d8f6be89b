-- A header that was checked, signal for signal.
use Rattle.std.proofs.Common.{◌≡◌, ℕ, suc, ◌+◌, ◌<◌, List, ◌++◌, Bool, inl, inr, subst, arith, ap}
use Rattle.std.proofs.Common.{◌∙◌, append_assoc, append-nil, sym, ◌≤◌, ◌∷◌, [], length, take}
use Rattle.std.proofs.Common.{get_or, zero}
use Rattle.std.specs.List.{flat_map, AllByRecursion}
use Rattle.std.proofs.lemmas.List.{take_more, take_all}
use Rattle.std.proofs.lemmas.Grind.{flat_map-append}
use Rattle.edf_time.proofs.Decided.{less}
use Rattle.edf_header.specs.Signal.{row_at}
use Rattle.edf_mend.specs.Changes.{FieldChange, changes_of_signals, changes_of_row}
use Rattle.edf_mend.specs.Header.{KeepsRow}

-- one more than all so far
pub all-below : (P : ℕ → Type 0) (i : ℕ) → ((j : ℕ) → j < i → P j) → P i → (j : ℕ) → j < i + 1 → P j
all-below P i so one j lt = elim (less j i) [
  | inl below ↦ so j below
  | inr other ↦ subst P (omega (arith, lt, other)) one
]

abbrev pub KeepsNth : Bool → ℕ → List ℕ → ℕ → List ℕ → ℕ → Type 0
KeepsNth timed n old count new j = KeepsRow timed (row_at old n j) (row_at new count j)

-- ---- fields of one signal more

pub one-row : (n : ℕ) (old : List ℕ) (count : ℕ) (new : List ℕ) (i : ℕ)
    (before so after : List FieldChange) (p q : List ℕ) →
    so ≡ before ++ changes_of_signals n old count new i → p ≡ row_at old n i →
    q ≡ row_at new count i → after ≡ so ++ changes_of_row n i p q →
    after ≡ before ++ changes_of_signals n old count new (i + 1)
one-row n old count new i before so after p q so-is p-is q-is one =
    let next : suc i ≡ i + 1 = omega arith in
    one
    ∙ ap (λ (l : List ℕ). so ++ changes_of_row n i l q) p-is
    ∙ ap (λ (l : List ℕ). so ++ changes_of_row n i (row_at old n i) l) q-is
    ∙ ap (λ (l : List FieldChange). l ++ changes_of_row n i (row_at old n i) (row_at new count i))
    so-is
    ∙ append_assoc before (changes_of_signals n old count new i)
    (changes_of_row n i (row_at old n i) (row_at new count i))
    ∙ ap (λ (k : ℕ). before ++ changes_of_signals n old count new k) next

-- ---- lists part by part

pub parts-step : {X Y : Type 0} (g : X → List Y) (xs : List X) (i : ℕ) (d : X)
    (start old new : List Y) → i < length xs → old ≡ start ++ flat_map g (take i xs) →
    new ≡ old ++ g (get_or xs i d) → new ≡ start ++ flat_map g (take (i + 1) xs)
parts-step {X} {Y} g xs i d start old new lt was is =
    let x = get_or xs i d in
    let ts = take i xs in
    is ∙ ap (λ (l : List Y). l ++ g x) was ∙ append_assoc start (flat_map g ts) (g x)
    ∙ ap (λ (l : List Y). start ++ (flat_map g ts ++ l)) (sym (append-nil (g x)))
    ∙ ap (λ (l : List Y). start ++ l) (sym (flat_map-append g ts (x ∷ [])))
    ∙ ap (λ (l : List X). start ++ flat_map g l) (sym (take_more xs i d lt))

pub parts-end : {X Y : Type 0} (g : X → List Y) (xs : List X) (i : ℕ) (start old : List Y) →
    length xs ≤ i → old ≡ start ++ flat_map g (take i xs) → old ≡ start ++ flat_map g xs
parts-end {X} g xs i start old past was = was
    ∙ ap (λ (l : List X). start ++ flat_map g l) (take_all i xs past)

-- one more than all so far
pub all-more : {X : Type 0} (P : X → Type 0) (xs : List X) (i : ℕ) (d : X) → i < length xs →
    AllByRecursion P (take i xs) → P (get_or xs i d) → AllByRecursion P (take (i + 1) xs)
all-more P [] i d lt so one = absurd (omega (arith, lt))
all-more P (x ∷ xs) zero d lt so one = (one, tt)
all-more {X} P (x ∷ xs) (suc i) d lt so one =
    let next : suc (i + 1) ≡ suc i + 1 = omega arith in
    subst (λ (k : ℕ). AllByRecursion P (take k (x ∷ xs))) next
    (so.0, all-more P xs i d (omega (arith, lt)) so.1 one)

pub one-of : {X : Type 0} (P : X → Type 0) (xs : List X) (i : ℕ) (d : X) → i < length xs →
    AllByRecursion P xs → P (get_or xs i d)
one-of P [] i d lt all = absurd (omega (arith, lt))
one-of P (x ∷ xs) zero d lt all = all.0
one-of P (x ∷ xs) (suc i) d lt all = one-of P xs i d (omega (arith, lt)) all.1

pub all-whole : {X : Type 0} (P : X → Type 0) (xs : List X) (i : ℕ) → length xs ≤ i →
    AllByRecursion P (take i xs) → AllByRecursion P xs
all-whole {X} P xs i past all =
    subst (λ (l : List X). AllByRecursion P l) (take_all i xs past) all
