-- A step of a walk over the records of a recording, as a source of data records.
use Rattle.std.specs.Prelude.{ℕ, Option, Result, IfOk}
use Rattle.sqlite_trees.specs.declared.store.Store.{Ghosts}
use Rattle.edf_header.specs.Key.{Key}
use Rattle.edf_fragment.specs.Fragment.{DataRecord}
use Rattle.edf_holdings.specs.Holdings.{Holdings}
use Rattle.edf_store.specs.Call.{AnswersWith}
use Rattle.edf_store.specs.Walk.{IsNextRecord, HasYielded, IsWalkStep, count_after}
use Rattle.edf_store.specs.declared.cursor.Cursor.{Cursor}
use Rattle.edf_store.specs.declared.fault.StoreFault.{StoreFault}
use Rattle.edf_store.specs.declared.records.Records.{Records}
use Rattle.edf_export.specs.declared.walked.Walked.{Walked}

-- a step: what it does to the walk, the next record that it gives, and how far the walk is then
pub record IsSourceStep {S : Type 0} (g : Ghosts S) (source : Walked) (old : Records S Cursor)
    (input : Unit {0}) (source' : Walked) (new : Records S Cursor) (input' : Unit {0})
    (answer : Result (Option DataRecord) StoreFault) : Type 0 where
  pub walk_step : IsWalkStep g old new answer
  pub step : AnswersWith g new.store.now answer (λ o. (h : Holdings) (k : Key) (n : ℕ) →
      HasYielded g old h k n → IsNextRecord (h k) n o)
  pub moved : IfOk answer (λ o. (h : Holdings) (k : Key) (n : ℕ) →
      HasYielded g old h k n → HasYielded g new h k (count_after n o))
