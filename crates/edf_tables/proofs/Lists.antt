-- A list of four.
use Rattle.std.proofs.Common.{◌≡◌, ◌<◌, ◌≤◌, List, [], ◌∷◌, length, get_or, sym, arith}

pub all_four : {X : Type 0} (xs : List X) (a b c d : X) → 4 ≤ length xs → length xs < 5 →
    a ≡ get_or xs 0 a → b ≡ get_or xs 1 b → c ≡ get_or xs 2 c → d ≡ get_or xs 3 d →
    xs ≡ a ∷ b ∷ c ∷ d ∷ []
all_four [] a b c d low high p q r s = absurd (omega arith)
all_four (x ∷ []) a b c d low high p q r s = absurd (omega arith)
all_four (x ∷ y ∷ []) a b c d low high p q r s = absurd (omega arith)
all_four (x ∷ y ∷ z ∷ []) a b c d low high p q r s = absurd (omega arith)
all_four (x ∷ y ∷ z ∷ w ∷ []) a b c d low high p q r s =
    λ i. sym p i ∷ sym q i ∷ sym r i ∷ sym s i ∷ []
all_four (x ∷ y ∷ z ∷ w ∷ v ∷ more) a b c d low high p q r s = absurd (omega arith)
