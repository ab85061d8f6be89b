-- A list that is walked.
use Rattle.std.proofs.Common.{◌≡◌, ℕ, ◌+◌, ◌<◌, List, length, take, get_or, map, sym, ap, ◌∙◌}
use Rattle.std.proofs.Common.{subst, All}
use Rattle.std.proofs.lemmas.List.{take_more, get_or-map}
use Rattle.std.proofs.lemmas.List.Elements.{All-push}

module _ {X : Type 0} (xs : List X) (i : ℕ) (x : X) (lt : i < length xs) (is : x ≡ get_or xs i x)
  where
    pub all-more : (P : X → Type 0) → All P (take i xs) → P x → All P (take (i + 1) xs)
    all-more P all one = subst (All P) (sym (take_more xs i x lt))
        (All-push P (take i xs) (get_or xs i x) all (subst P is one))

    pub mapped : {Y : Type 0} (f : X → Y) → f x ≡ get_or (map f xs) i (f x)
    mapped f = ap f is ∙ sym (get_or-map f xs i x (f x) lt)
