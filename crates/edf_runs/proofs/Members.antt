-- Members of lists, of filtered lists and of joined lists.
use Rattle.std.proofs.Common.{◌≡◌, zero, suc, ◌⊎◌, List, [], ◌∷◌, ◌++◌}
use Rattle.std.proofs.Common.{Contains, refl, sym, ap, ◌∙◌, subst, arith, inl, inr}
use Rattle.std.specs.Prelude.{Bool, true, false, cond, ◌&&◌, filter}
use Rattle.std.specs.List.{flat_map}
use Rattle.std.proofs.lemmas.Grind.{flat_map-append}

pub contains-first : {X : Type 0} (x : X) (xs : List X) → Contains (x ∷ xs) x
contains-first x xs = (0, omega arith, refl)

pub contains-later : {X : Type 0} (x : X) (xs : List X) (y : X) → Contains xs y →
    Contains (x ∷ xs) y
contains-later x xs y c = (suc c.0, omega (arith, c.1), c.2)

pub contains-cases : {X : Type 0} (x : X) (xs : List X) (y : X) → Contains (x ∷ xs) y → (x ≡ y)
    ⊎ Contains xs y
contains-cases x xs y (zero, lt, e) = inl e
contains-cases x xs y (suc i, lt, e) = inr (i, omega arith, e)

pub contains-none : {X : Type 0} (x : X) → ¬ Contains [] x
contains-none x c = omega (arith, c.1)

-- a list is parted at its member
pub record Parted {X : Type 0} (xs : List X) (x : X) : Type 0 where
  pub before : List X
  pub after : List X
  pub parts : xs ≡ before ++ x ∷ after

pub parted : {X : Type 0} (xs : List X) (x : X) → Contains xs x → Parted xs x
parted [] x c = absurd (contains-none x c)
parted (y ∷ ys) x c = elim (contains-cases y ys x c) [
  | inl same ↦ record { before = []; after = ys; parts = ap (λ z. z ∷ ys) same }
  | inr later ↦ let more = parted ys x later in
      record { before = y ∷ more.before; after = more.after; parts = ap (λ l. y ∷ l) more.parts }
]

-- what a filter keeps
module _ {X : Type 0} (p : X → Bool) where
  kept-here : (b : Bool) (x y : X) (xs : List X) → Contains (cond b (x ∷ xs) xs) y →
      ((b ≡ true) × (x ≡ y)) ⊎ Contains xs y
  kept-here true x y xs c = elim (contains-cases x xs y c) [
    | inl same ↦ inl (refl, same)
    | inr later ↦ inr later
  ]
  kept-here false x y xs c = inr c

  kept-later : (b : Bool) (x y : X) (xs : List X) → Contains xs y → Contains (cond b (x ∷ xs) xs) y
  kept-later true x y xs c = contains-later x xs y c
  kept-later false x y xs c = c

  pub contains-kept : (xs : List X) (y : X) → Contains (filter p xs) y → Contains xs y
      × (p y ≡ true)
  contains-kept [] y c = absurd (contains-none y c)
  contains-kept (x ∷ xs) y c = elim (kept-here (p x) x y (filter p xs) c) [
    | inl here ↦ (
      subst (Contains (x ∷ xs)) here.1 (contains-first x xs),
      ap p (sym here.1) ∙ here.0,
    )
    | inr later ↦ let more = contains-kept xs y later in
        (contains-later x xs y more.0, more.1)
  ]

  pub kept-contains : (xs : List X) (y : X) → Contains xs y → p y ≡ true → Contains (filter p xs) y
  kept-contains [] y c passes = absurd (contains-none y c)
  kept-contains (x ∷ xs) y c passes = elim (contains-cases x xs y c) [
    | inl same ↦
        subst (λ b. Contains (cond b (x ∷ filter p xs) (filter p xs)) y)
        (sym (ap p same ∙ passes))
        (subst (Contains (x ∷ filter p xs)) same (contains-first x (filter p xs)))
    | inr later ↦ kept-later (p x) x y (filter p xs) (kept-contains xs y later passes)
  ]

by-two : {X : Type 0} (p q : X → Bool) (x : X) (xs : List X) (b c : Bool) → p x ≡ c →
    filter p (filter q xs) ≡ filter (λ y. q y && p y) xs
    → filter p (cond b (x ∷ filter q xs) (filter q xs))
    ≡ cond (b && c) (x ∷ filter (λ y. q y && p y) xs) (filter (λ y. q y && p y) xs)
by-two p q x xs true c is rest =
    ap (λ d. cond d (x ∷ filter p (filter q xs)) (filter p (filter q xs))) is
    ∙ ap (λ l. cond c (x ∷ l) l) rest
by-two p q x xs false c is rest = rest

-- a filter of a filtered list
pub filter-both : {X : Type 0} (p q : X → Bool) (xs : List X) → filter p (filter q xs) ≡ filter
    (λ x. q x && p x) xs
filter-both p q [] = refl
filter-both p q (x ∷ xs) = by-two p q x xs (q x) (p x) refl (filter-both p q xs)

-- lists that are joined, and those joined of each
pub flat_map-joined : {X Y : Type 0} (f : X → List Y) (xss : List (List X)) →
    flat_map (λ xs. flat_map f xs) xss ≡ flat_map f (flat_map (λ xs. xs) xss)
flat_map-joined f [] = refl
flat_map-joined f (xs ∷ xss) =
    ap (λ l. flat_map f xs ++ l) (flat_map-joined f xss)
    ∙ sym (flat_map-append f xs (flat_map (λ xs. xs) xss))
