-- A text in parts, one after another.
use Rattle.std.proofs.Common.{◌≡◌, ℕ, ◌+◌, ◌<◌, Bool, true, false, List, [], ◌++◌, length, take}
use Rattle.std.proofs.Common.{drop, get_or, sym, ap, ◌∙◌, subst, append_assoc, take-append-drop}
use Rattle.std.specs.Prelude.{Option}
use Rattle.std.specs.List.{flat_map}
use Rattle.std.proofs.lemmas.Bool.{false≢true}
use Rattle.std.proofs.lemmas.List.{take_more, flat_map_more}
use Rattle.std.proofs.lemmas.Grind.{flat_map-append}
use Rattle.edf_cli.specs.Output.{Gets, GetsPrefix, IsPut}
use Rattle.edf_cli.proofs.Puts.{grown, gets-after, front-after}

pub four-parts : (a b c d rest : List ℕ) → (a ++ (b ++ (c ++ d))) ++ rest ≡ a
    ++ (b ++ (c ++ (d ++ rest)))
four-parts a b c d rest = append_assoc a (b ++ (c ++ d)) rest
    ∙ ap (λ (t : List ℕ). a ++ t) (append_assoc b (c ++ d) rest
    ∙ ap (λ (t : List ℕ). b ++ t) (append_assoc c d rest))

pub lines-more : {X : Type 0} (f : X → List ℕ) (xs : List X) (i : ℕ) (d : X) → i < length xs
    → flat_map f (take (i + 1) xs) ≡ flat_map f (take i xs) ++ f (get_or xs i d)
lines-more f xs i d lt = ap (flat_map f) (take_more xs i d lt)
    ∙ sym (flat_map_more f [] (take i xs) (get_or xs i d))

pub lines-split : {X : Type 0} (f : X → List ℕ) (xs : List X) (i : ℕ) (d : X) → i < length xs
    → flat_map f xs ≡ flat_map f (take i xs) ++ (f (get_or xs i d) ++ flat_map f (drop (i + 1) xs))
lines-split f xs i d lt = ap (flat_map f) (sym (take-append-drop (i + 1) xs))
    ∙ flat_map-append f (take (i + 1) xs) (drop (i + 1) xs)
    ∙ ap (λ (l : List ℕ). l ++ flat_map f (drop (i + 1) xs)) (lines-more f xs i d lt)
    ∙ append_assoc (flat_map f (take i xs)) (f (get_or xs i d)) (flat_map f (drop (i + 1) xs))

module _ (a : Option (List ℕ)) (old : ℕ) (b : Option (List ℕ)) (mid : ℕ) (c : Option (List ℕ))
    (new : ℕ) {X : Type 0} (f : X → List ℕ) (xs : List X) (i : ℕ) (d : X)
    (within : i < length xs) (done : Gets (grown a old b mid) (flat_map f (take i xs))) where
  -- one part more
  pub parts-more : (written : Bool) → IsPut (grown b mid c new) (f (get_or xs i d)) written →
      written ≡ true → Gets (grown a old c new) (flat_map f (take (i + 1) xs))
  parts-more true put e = subst (Gets (grown a old c new)) (sym (lines-more f xs i d within))
      (gets-after a old b mid c new (flat_map f (take i xs)) (f (get_or xs i d)) done put)
  parts-more false put e = absurd (false≢true e)

  -- a part that was not written whole
  pub parts-stop : IsPut (grown b mid c new) (f (get_or xs i d)) false →
      GetsPrefix (grown a old c new) (flat_map f xs)
  parts-stop put = front-after a old b mid c new (flat_map f (take i xs)) (f (get_or xs i d))
      (flat_map f (drop (i + 1) xs)) (flat_map f xs) (lines-split f xs i d within) done put
