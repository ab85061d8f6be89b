-- The runs of a recording: its longest stretches of data records without a gap.
use Rattle.std.specs.Prelude.{◌≡◌, ◌≢◌, ℕ, ◌+◌, ◌-◌, ◌*◌, ◌≤◌, List, [], ◌∷◌, ◌++◌, length, All}
use Rattle.std.specs.List.{flat_map, AllZip}
use Rattle.edf_fragment.specs.Fragment.{DataRecord}
use Rattle.edf_canonical.specs.File.{second_of, BlocksFit}
use Rattle.edf_runs.specs.declared.run.Run.{Run}

-- the first data record starts at this instant, and each other where the one before ends; each
-- lasts d nanoseconds
abbrev pub StartFrom : ℕ → ℕ → List DataRecord → Type 0
StartFrom d instant [] = Unit {0}
StartFrom d instant (r ∷ rs) = (r.start ≡ instant) × StartFrom d (instant + d) rs

-- each data record but the first starts where the one before ends, to the nanosecond
abbrev pub IsTouching : ℕ → List DataRecord → Type 0
IsTouching d [] = Unit {0}
IsTouching d (r ∷ rs) = StartFrom d (r.start + d) rs

-- no two neighbours may be joined: the first data record of a run doesn't start where the last of
-- the run before it ends
abbrev pub AreParted : ℕ → List (List DataRecord) → Type 0
AreParted d [] = Unit {0}
AreParted d (run ∷ []) = Unit {0}
AreParted d (run ∷ next ∷ runs) = (¬ IsTouching d (run ++ next)) × AreParted d (next ∷ runs)

-- these are the runs of data records that last d nanoseconds each; a law says that each list of
-- data records has just one such list
pub record IsRuns (d : ℕ) (records : List DataRecord) (runs : List (List DataRecord)) : Type 0 where
  pub joined : flat_map (λ run. run) runs ≡ records
  pub none_empty : All (λ run. run ≢ []) runs
  pub touching : All (IsTouching d) runs
  pub parted : AreParted d runs

-- what is listed of a run: when its first and its last data record start; how many there are; and
-- how many samples, two bytes each, the annotations signal of the run's file has in each data
-- record: the fewest that hold its longest block
pub record IsListed (d : ℕ) (records : List DataRecord) (run : Run) : Type 0 where
  pub count : run.records ≡ length records
  pub starts : StartFrom d run.first records
  pub last : run.last ≡ run.first + (run.records - 1) * d
  pub holds : BlocksFit (second_of run.first) run.block_samples records
  pub least : (fewer : ℕ) → BlocksFit (second_of run.first) fewer records →
      run.block_samples ≤ fewer

-- the list has one entry for each run of the data records, in the order of the file
pub record AreListed (d : ℕ) (records : List DataRecord) (listed : List Run) : Type 0 where
  pub runs : List (List DataRecord)
  pub are_runs : IsRuns d records runs
  pub each : AllZip (IsListed d) runs listed
