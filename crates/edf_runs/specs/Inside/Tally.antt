-- What is counted of the first data records of a run.
use Rattle.std.specs.Prelude.{◌≡◌, ℕ, List}
use Rattle.edf_fragment.specs.Fragment.{DataRecord}
use Rattle.edf_runs.specs.Counted.{AreCounted, run_end}
use Rattle.edf_runs.specs.declared.run.Run.{Run}
use Rattle.edf_runs.specs.declared.tally.Tally.{Tally}

-- where the run starts and ends, and what is counted of these data records
pub record IsTallied (d : ℕ) (run : Run) (records : List DataRecord) (tally : Tally) : Type 0
  where
    pub first : tally.first ≡ run.first
    pub end : tally.end ≡ run_end d run
    pub counted : AreCounted d run records tally.annotations tally.outside
