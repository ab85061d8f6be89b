-- A finite set of data records with different starts is a list in which the starts rise.
use Rattle.std.specs.Prelude.{ℕ, ◌+◌, ◌≤◌, Bool, false, ◌||◌, nat_lt, cond, List, [], ◌∷◌}
use Rattle.edf_fragment.specs.Fragment.{DataRecord}
use Rattle.edf_holdings.specs.Same.{same_record}

-- the first start is at least `low`, and each other at least d after the one before
abbrev pub StartsAreSpaced : ℕ → ℕ → List DataRecord → Type 0
StartsAreSpaced d low [] = Unit {0}
StartsAreSpaced d low (x ∷ xs) = (low ≤ x.start) × StartsAreSpaced d (x.start + d) xs

-- each start is after the one before; a law says that such lists with the same members are equal
abbrev pub IsRising : List DataRecord → Type 0
IsRising xs = StartsAreSpaced 1 0 xs

-- tests that the list has the record
abbrev pub contains_record : List DataRecord → DataRecord → Bool
contains_record [] r = false
contains_record (x ∷ xs) r = same_record x r || contains_record xs r

-- inserts a record before the first that starts later, unless it is there already
abbrev pub insert : DataRecord → List DataRecord → List DataRecord
insert r [] = r ∷ []
insert r (x ∷ xs) = cond (same_record x r) (x ∷ xs)
    (cond (nat_lt r.start x.start) (r ∷ x ∷ xs) (x ∷ insert r xs))

-- inserts the records of the second list into the first; a law says that it has those of both
abbrev pub union : List DataRecord → List DataRecord → List DataRecord
union xs [] = xs
union xs (r ∷ rs) = union (insert r xs) rs

-- counts the records of the second list that are not in the first
abbrev pub count_new : List DataRecord → List DataRecord → ℕ
count_new xs [] = 0
count_new xs (r ∷ rs) = cond (contains_record xs r) (count_new xs rs) (1 + count_new xs rs)
