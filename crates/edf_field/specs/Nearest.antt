-- One of a signal's digital values stands for the physical value nearest to 0.
use Rattle.std.specs.Prelude.{ℕ, ◌-◌, ◌≤◌, ◌<◌, List, ℤ, pos, ◌+ℤ◌, ◌*ℤ◌, unsigned_abs}
use Rattle.edf_field.specs.Number.{scaled, fraction_len}

-- The digital values from one that stands for `low` to one that stands for `high`, `steps` above
-- it, lie on a line: the one `n` above the first stands for this, divided by `steps`.
abbrev pub on_line : ℤ → ℤ → ℕ → ℕ → ℤ
on_line low high steps n = (low *ℤ pos (steps - n)) +ℤ (high *ℤ pos n)

-- The nth stands for a value no further from 0 than any other, and each before it for one further.
pub record IsNearestZero (low high : ℤ) (steps n : ℕ) : Type 0 where
  pub within : n ≤ steps
  pub nearest : (other : ℕ) → other ≤ steps →
      unsigned_abs (on_line low high steps n) ≤ unsigned_abs (on_line low high steps other)
  pub lesser : (other : ℕ) → other < n →
      unsigned_abs (on_line low high steps n) < unsigned_abs (on_line low high steps other)

-- The same is said of texts of the physical values, both counted in the decimal places of both.
abbrev pub IsNearest : List ℕ → List ℕ → ℕ → ℕ → Type 0
IsNearest minimum maximum steps n = IsNearestZero (scaled minimum (fraction_len maximum))
    (scaled maximum (fraction_len minimum)) steps n
