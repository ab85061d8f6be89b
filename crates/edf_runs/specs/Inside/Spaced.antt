-- Data records that lie apart.
use Rattle.std.specs.Prelude.{ℕ, ◌+◌, ◌≤◌, List, [], ◌∷◌}
use Rattle.edf_fragment.specs.Fragment.{DataRecord}

-- each data record starts d nanoseconds after the one before, or later, and the first from `low` on
abbrev pub Spaced : ℕ → ℕ → List DataRecord → Type 0
Spaced d low [] = Unit {0}
Spaced d low (r ∷ rs) = (low ≤ r.start) × Spaced d (r.start + d) rs
