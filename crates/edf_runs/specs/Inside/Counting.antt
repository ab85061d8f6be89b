-- How many annotations data records have, where none has too many.
use Rattle.std.specs.Prelude.{◌≡◌, ℕ, ◌+◌, List, [], ◌∷◌, length, map}
use Rattle.std.specs.Prelude.{Bool, false, ◌&&◌, ◌||◌, nat_le, nat_lt}
use Rattle.std.specs.List.{AllByRecursion}
use Rattle.edf_fragment.specs.Fragment.{DataRecord}
use Rattle.edf_runs.specs.Crowded.{IsFirstCrowded}
use Rattle.edf_runs.specs.Inside.Selecting.{HasLimits}
use Rattle.edf_runs.specs.declared.crowded_fault.CrowdedFault.{CrowdedFault}
use Rattle.edf_runs.specs.declared.crowded_fault.CrowdedFault.TheVariants.{Crowded, Memory}

abbrev pub AreCountsOf : List DataRecord → List ℕ → Type 0
AreCountsOf records counts = (counts ≡ map (λ (r : DataRecord). length r.annotations) records)
    × AllByRecursion HasLimits records

-- One has too many, which is in the run of this number.
abbrev pub HaveCrowded : ℕ → List DataRecord → CrowdedFault → Type 0
HaveCrowded d records (Crowded number) = IsFirstCrowded d records number
HaveCrowded d records Memory = Unit {0}

-- A data record that starts at one of these, and lasts d nanoseconds, has the instant.
abbrev pub lies_at : ℕ → List ℕ → ℕ → Bool
lies_at d [] instant = false
lies_at d (s ∷ ss) instant = (nat_le s instant && nat_lt instant (s + d)) || lies_at d ss instant
