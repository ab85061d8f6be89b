-- The lines of a text that a line feed ends.
use Rattle.std.proofs.Common.{◌≡◌, ◌⊎◌, ◌∙◌, ◌++◌, ◌==◌, ◌+◌, ◌-◌, ◌<◌, ◌≤◌, List, [], ◌∷◌, ℕ, Bool}
use Rattle.std.proofs.Common.{true, false, cond}
use Rattle.std.proofs.Common.{refl, sym, ap, subst, inl, inr, append_assoc, length, take, get_or}
use Rattle.std.proofs.Common.{arith}
use Rattle.std.proofs.lemmas.List.{append-nil, take_all, take_more}
use borrow.Author.Tests.{eqb-true}
use Rattle.edf_serve.specs.Lines.{onto_lines, whole_lines}

-- a line feed ends it
abbrev pub EndsFed : List ℕ → Type 0
EndsFed xs = (before : List ℕ) × (xs ≡ before ++ (10 ∷ []))

pub fed-behind : (xs ys : List ℕ) → EndsFed ys → EndsFed (xs ++ ys)
fed-behind xs ys e = (
  xs ++ e.0,
  ap (λ (l : List ℕ). xs ++ l) e.1 ∙ sym (append_assoc xs e.0 (10 ∷ [])),
)

onto-fed : (x : ℕ) (before : List ℕ) →
    onto_lines x (before ++ (10 ∷ [])) ≡ x ∷ (before ++ (10 ∷ []))
onto-fed x [] = refl
onto-fed x (y ∷ ys) = refl

pub fed-whole : (xs : List ℕ) → whole_lines (xs ++ (10 ∷ [])) ≡ xs ++ (10 ∷ [])
fed-whole [] = refl
fed-whole (x ∷ xs) = ap (onto_lines x) (fed-whole xs) ∙ onto-fed x xs

pub unfed-whole : (xs : List ℕ) (b : ℕ) → (b == 10) ≡ false →
    whole_lines (xs ++ (b ∷ [])) ≡ whole_lines xs
unfed-whole [] b e = ap (λ (c : Bool). cond c (b ∷ []) []) e
unfed-whole (x ∷ xs) b e = ap (onto_lines x) (unfed-whole xs b e)

pub is-whole : (xs : List ℕ) → EndsFed xs → xs ≡ whole_lines xs
is-whole xs e = e.1 ∙ sym (ap whole_lines e.1 ∙ fed-whole e.0)

-- there is none, or a line feed ends the last
abbrev AreLines : List ℕ → Type 0
AreLines xs = (xs ≡ []) ⊎ EndsFed xs

lines-one : (x : ℕ) (b : Bool) → (x == 10) ≡ b → AreLines (cond b (x ∷ []) [])
lines-one x true e = inr ([], ap (λ (n : ℕ). n ∷ []) (eqb-true x 10 e))
lines-one x false e = inl refl

lines-onto : (x : ℕ) (ys : List ℕ) → AreLines ys → AreLines (onto_lines x ys)
lines-onto x ys (inl e) =
    subst (λ (l : List ℕ). AreLines (onto_lines x l)) (sym e) (lines-one x (x == 10) refl)
lines-onto x ys (inr e) = inr (x ∷ e.0, ap (onto_lines x) e.1 ∙ onto-fed x e.0)

are-lines : (xs : List ℕ) → AreLines (whole_lines xs)
are-lines [] = inl refl
are-lines (x ∷ xs) = lines-onto x (whole_lines xs) (are-lines xs)

lines-append : (xs ys : List ℕ) → AreLines xs → AreLines ys → AreLines (xs ++ ys)
lines-append xs ys a (inl e) = subst (λ (l : List ℕ). AreLines (xs ++ l)) (sym e)
    (subst AreLines (sym (append-nil xs)) a)
lines-append xs ys a (inr e) = inr (fed-behind xs ys e)

whole-by : (xs : List ℕ) → AreLines xs → xs ≡ whole_lines xs
whole-by xs (inl e) = e ∙ sym (ap whole_lines e)
whole-by xs (inr e) = is-whole xs e

pub both-whole : (xs ys : List ℕ) →
    whole_lines xs ++ whole_lines ys ≡ whole_lines (whole_lines xs ++ whole_lines ys)
both-whole xs ys = whole-by (whole_lines xs ++ whole_lines ys)
    (lines-append (whole_lines xs) (whole_lines ys) (are-lines xs) (are-lines ys))

-- a front, by its last byte
module _ (xs : List ℕ) (n : ℕ) (some : 0 < n) (within : n ≤ length xs) where
  last-of : take n xs ≡ take (n - 1) xs ++ (get_or xs (n - 1) 0 ∷ [])
  last-of =
      let same : n ≡ (n - 1) + 1 = omega (arith, some) in
      ap (λ (k : ℕ). take k xs) same ∙ take_more xs (n - 1) 0 (omega (arith, some, within))

  pub front-whole : get_or xs (n - 1) 0 ≡ 10 → take n xs ≡ whole_lines (take n xs)
  front-whole fed = is-whole (take n xs) (
    take (n - 1) xs,
    last-of ∙ ap (λ (b : ℕ). take (n - 1) xs ++ (b ∷ [])) fed,
  )

  pub front-unfed : (get_or xs (n - 1) 0 == 10) ≡ false →
      whole_lines (take (n - 1) xs) ≡ whole_lines (take n xs)
  front-unfed unfed = sym (ap whole_lines last-of
      ∙ unfed-whole (take (n - 1) xs) (get_or xs (n - 1) 0) unfed)

pub all-front : (xs : List ℕ) → take (length xs) xs ≡ xs
all-front xs = take_all (length xs) xs (omega arith)
