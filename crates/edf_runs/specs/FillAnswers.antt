-- What `fill` answers beside the file: it kept the limits, and what it counted. A filled file within
-- limits.
use Rattle.std.specs.Prelude.{◌≡◌, ℕ, ◌+◌, ◌-◌, ◌*◌, ◌≤◌, ◌&&◌, List, [], ◌∷◌, ◌++◌, length, map}
use Rattle.std.specs.Prelude.{Bool, nat_lt, nat_eq, All, Contains, drop, zip, count_by}
use Rattle.edf_field.specs.Number.{duration_of}
use Rattle.edf_header.specs.Key.{Key}
use Rattle.edf_fragment.specs.Fragment.{DataRecord}
use Rattle.edf_runs.specs.File.{IsRunFile}
use Rattle.edf_runs.specs.Filled.{place_of, IsFilled}
use Rattle.edf_runs.specs.declared.filled.FillCounts.{FillCounts}
use Rattle.edf_runs.specs.declared.filled.FillLimits.{FillLimits}

abbrev pub starts_of : List DataRecord → List ℕ
starts_of records = map (λ r. r.start) records

-- Each start with the next one.
abbrev pub neighbours : List ℕ → List (ℕ × ℕ)
neighbours starts = zip starts (drop 1 starts)

-- Between two neighbours, which last d nanoseconds each, there is a gap.
abbrev pub is_gap : ℕ → ℕ × ℕ → Bool
is_gap d x = nat_lt (x.0 + d) x.1

-- No place is free between the g parts of the one and those of the other.
abbrev pub is_closed : ℕ → ℕ → ℕ → ℕ → ℕ × ℕ → Bool
is_closed d g u first x = is_gap d x && nat_eq (place_of u first x.1) (place_of u first x.0 + g)

-- How far a start is from when its place starts.
abbrev pub move_of : ℕ → ℕ → ℕ → ℕ
move_of u first s = (first + place_of u first s * u - s) + (s - (first + place_of u first s * u))

-- No gap is longer than allowed, and no data record moves further.
pub record IsAllowed (limits : FillLimits) (d u first : ℕ) (starts : List ℕ) : Type 0 where
  pub gaps : All (λ (x : ℕ × ℕ). x.1 - (x.0 + d) ≤ limits.longest_gap) (neighbours starts)
  pub moves : All (λ s. move_of u first s ≤ limits.moved) starts

-- Data records of d nanoseconds, each divided into g parts of u, are counted so.
pub record AreFillCounts (d g u first : ℕ) (starts : List ℕ) (counts : FillCounts) : Type 0 where
  pub records : (before : List ℕ) (last : ℕ) → starts ≡ before ++ last ∷ [] →
      counts.records ≡ place_of u first last + g
  pub flat : counts.flat + g * length starts ≡ counts.records
  pub gaps : counts.gaps ≡ count_by (is_gap d) (neighbours starts)
  pub closed : counts.closed ≡ count_by (is_closed d g u first) (neighbours starts)
  pub reached : Contains (map (move_of u first) starts) counts.moved
  pub furthest : All (λ s. move_of u first s ≤ counts.moved) starts

-- The bytes are the filled file of a recording, whose gaps are no longer than allowed and whose data
-- records move no further.
abbrev pub IsFilledWithin : FillLimits → List ℕ → Key → List DataRecord → Type 0
IsFilledWithin limits bytes k [] = ⊥
IsFilledWithin limits bytes k (r ∷ rs) = (g : ℕ) × (u : ℕ) × (key : Key)
    × (others : List DataRecord) × IsFilled k r rs g u key others × IsRunFile bytes key others
    × IsAllowed limits (duration_of k.duration) u r.start (starts_of (r ∷ rs))
