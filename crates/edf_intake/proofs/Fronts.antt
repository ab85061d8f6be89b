-- One member more of a list that is written from its front on.
use Rattle.std.proofs.Common.{◌≡◌, ℕ, suc, ◌+◌, ◌<◌, List, [], ◌∷◌, ◌++◌, length, map, take, drop}
use Rattle.std.proofs.Common.{get_or, sym, ap, subst, ◌∙◌, arith, add-one, drop-cons}
use Rattle.std.proofs.Math.ListN.{set}
use Rattle.std.proofs.lemmas.List.{take_more, take_more_set, drop-set-lt, length-drop, map-append}

module _ {X Y : Type 0} (f : X → Y) (olds nows : List X) (i : ℕ) (old new : X)
    (old_within : i < length olds) (same : drop i nows ≡ drop i olds) (is : old ≡ get_or nows i old)
  where
    within : i < length nows
    within = omega (
      arith,
      length-drop i nows,
      length-drop i olds,
      ap (λ (l : List X). length l) same,
    )

    parts : (get_or nows i old ∷ drop (suc i) nows) ≡ (get_or olds i old ∷ drop (suc i) olds)
    parts = sym (drop-cons nows i old within) ∙ (same ∙ drop-cons olds i old old_within)

    here : get_or olds i old ≡ old
    here = let p : get_or nows i old ≡ get_or olds i old = (let q = parts in cc) in sym p ∙ sym is

    pub olds_more : map f (take (i + 1) olds) ≡ map f (take i olds) ++ f old ∷ []
    olds_more = ap (map f) (take_more olds i old old_within)
        ∙ (map-append f (take i olds) (get_or olds i old ∷ [])
        ∙ ap (λ (x : X). map f (take i olds) ++ f x ∷ []) here)

    pub nows_more : map f (take (i + 1) (set nows i new)) ≡ map f (take i nows) ++ f new ∷ []
    nows_more = ap (map f) (take_more_set nows i new within) ∙ map-append f (take i nows) (new ∷ [])

    pub others_same : drop (i + 1) (set nows i new) ≡ drop (i + 1) olds
    others_same =
        let rest : drop (suc i) nows ≡ drop (suc i) olds = (let q = parts in cc) in
        drop-set-lt (i + 1) nows i new (omega arith)
        ∙ subst (λ (n : ℕ). drop n nows ≡ drop n olds) (sym (add-one i)) rest
