-- Two data records of one key clash where their intervals overlap and they are not the same.
use Rattle.std.specs.Prelude.{◌≡◌, ℕ, ◌+◌, ◌<◌, ◌≤◌, Bool, not, ◌&&◌, nat_lt, List, Option}
use Rattle.std.specs.Prelude.{Contains, filter, find}
use Rattle.edf_fragment.specs.Fragment.{DataRecord}
use Rattle.edf_holdings.specs.Same.{same_record}

-- the record's interval begins with its start, lasts d, and contains the instant
pub record IntervalContains (d : ℕ) (r : DataRecord) (instant : ℕ) : Type 0 where
  pub begun : r.start ≤ instant
  pub not_over : instant < r.start + d

-- the intervals have an instant in common, and the records are not the same
abbrev pub Clash : ℕ → DataRecord → DataRecord → Type 0
Clash d r s = ((instant : ℕ) × IntervalContains d r instant × IntervalContains d s instant)
    × (¬ (r ≡ s))

-- no two of the records clash
abbrev pub NoClash : ℕ → List DataRecord → Type 0
NoClash d xs = (r s : DataRecord) → Contains xs r → Contains xs s → ¬ Clash d r s

-- tests that the record's interval overlaps the one that begins at this start
abbrev pub intervals_overlap : ℕ → ℕ → DataRecord → Bool
intervals_overlap d start s = nat_lt start (s.start + d) && nat_lt s.start (start + d)

-- tests for a clash; a law says that it is `Clash`
unfoldable pub clashes : ℕ → DataRecord → DataRecord → Bool
clashes d r s = not (same_record r s) && intervals_overlap d r.start s

-- selects the records whose intervals overlap the one that begins at this start, in their order
abbrev pub overlapping : ℕ → ℕ → List DataRecord → List DataRecord
overlapping d start xs = filter (intervals_overlap d start) xs

-- finds the first record of the list that is not r
abbrev pub first_other : DataRecord → List DataRecord → Option DataRecord
first_other r xs = find (λ s. not (same_record r s)) xs
