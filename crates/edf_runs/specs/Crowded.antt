-- Data records of which one would have too many annotations.
use Rattle.std.specs.Prelude.{◌≡◌, ℕ, List, [], ◌∷◌, ◌++◌, length, All}
use Rattle.edf_tal.specs.Block.{IsWithinLimits}
use Rattle.edf_fragment.specs.Fragment.{DataRecord}
use Rattle.edf_runs.specs.Runs.{IsRuns}

-- the data records have so many runs
pub record IsRunCount (d : ℕ) (records : List DataRecord) (count : ℕ) : Type 0 where
  pub runs : List (List DataRecord)
  pub are_runs : IsRuns d records runs
  pub count_is : count ≡ length runs

-- of data records, the first with too many annotations, or too many bytes of texts, is in the run
-- of this number, from 1: the last of the runs of the data records up to it
pub record IsFirstCrowded (d : ℕ) (records : List DataRecord) (number : ℕ) : Type 0 where
  pub before : List DataRecord
  pub r : DataRecord
  pub after : List DataRecord
  pub parts : records ≡ before ++ r ∷ after
  pub within : All (λ x. IsWithinLimits x.annotations) before
  pub crowded : ¬ IsWithinLimits r.annotations
  pub number_is : IsRunCount d (before ++ r ∷ []) number
