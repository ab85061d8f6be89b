-- The stretches of places that have no part, by the places of data records, one after another.
use Rattle.std.specs.Prelude.{ℕ, ◌+◌, ◌-◌, ◌≤◌, List, [], ◌∷◌, ◌++◌, nat_lt, if◌then◌else◌}

-- Between the next place and that of a data record there is one, or none.
abbrev pub gap : ℕ → ℕ → List (ℕ × ℕ)
gap next place = if nat_lt next place then (next, place - next) ∷ [] else []

-- From the next place on, each stretch has a place and a number; each data record has g parts.
abbrev pub stretches : ℕ → ℕ → List ℕ → List (ℕ × ℕ)
stretches g next [] = []
stretches g next (place ∷ places) = gap next place ++ stretches g (place + g) places

-- Each place is behind the parts before it.
abbrev pub Rise : ℕ → ℕ → List ℕ → Type 0
Rise g low [] = Unit {0}
Rise g low (place ∷ places) = (low ≤ place) × Rise g (place + g) places
