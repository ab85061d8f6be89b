-- A list in which one element is replaced.
use Rattle.std.proofs.Common.{◌≡◌, ℕ, ◌<◌, List, [], ◌∷◌, ◌++◌, length, map, set, get_or, refl, sym}
use Rattle.std.proofs.Common.{ap, ◌∙◌}
use Rattle.std.proofs.lemmas.List.{map-set, get_or-map}

set-mid : {X : Type 0} (front later : List X) (x y : X) →
    set (front ++ (x ∷ later)) (length front) y ≡ front ++ (y ∷ later)
set-mid [] later x y = refl
set-mid (z ∷ zs) later x y = ap (λ (l : List _). z ∷ l) (set-mid zs later x y)

get-mid : {X : Type 0} (front later : List X) (x d : X) →
    get_or (front ++ (x ∷ later)) (length front) d ≡ x
get-mid [] later x d = refl
get-mid (z ∷ zs) later x d = get-mid zs later x d

module _ {E F : Type 0} (f : E → F) (entries : List E) (place : ℕ) (front later : List F) (file : F)
    (now : map f entries ≡ front ++ (file ∷ later)) (at : length front ≡ place) where
  pub replaced : (e : E) → map f (set entries place e) ≡ front ++ (f e ∷ later)
  replaced e = map-set f entries place e ∙ ap (λ (l : List F). set l place (f e)) now
      ∙ ap (λ k. set (front ++ (file ∷ later)) k (f e)) (sym at)
      ∙ set-mid front later file (f e)

  pub was : (e : E) → place < length entries → e ≡ get_or entries place e → f e ≡ file
  was e lt is = ap f is ∙ sym (get_or-map f entries place e (f e) lt)
      ∙ ap (λ (l : List F). get_or l place (f e)) now
      ∙ ap (λ k. get_or (front ++ (file ∷ later)) k (f e)) (sym at)
      ∙ get-mid front later file (f e)
