-- How many annotations the file of a run has, and how many of those lie outside of the run.
use Rattle.std.specs.Prelude.{◌≡◌, ℕ, ◌+◌, List, length, Bool, ◌||◌, nat_le, nat_lt}
use Rattle.std.specs.Prelude.{count_by, true, ◌↔◌}
use Rattle.edf_tal.specs.Tal.{Annotation}
use Rattle.edf_fragment.specs.Fragment.{DataRecord}
use Rattle.edf_runs.specs.Runs.{IsListed}
use Rattle.edf_runs.specs.ByOnset.{annotations_of, Covers}
use Rattle.edf_runs.specs.declared.run.Run.{Run}

-- the onset lies before an instant, or at or after another
abbrev pub is_outside : ℕ → ℕ → Annotation → Bool
is_outside first end a = nat_lt a.onset first || nat_le end a.onset

-- when the last data record of a run ends, each of which lasts d nanoseconds
abbrev pub run_end : ℕ → Run → ℕ
run_end d run = run.last + d

-- the data records of a run have so many annotations, and so many of these have an onset before the
-- first data record starts, or at or after the end of the last
pub record AreCounted (d : ℕ) (run : Run) (records : List DataRecord) (annotations outside : ℕ) :
    Type 0 where
  pub all : annotations ≡ length (annotations_of records)
  pub out : outside ≡ count_by (is_outside run.first (run_end d run)) (annotations_of records)

-- of the data records of a run, an annotation is counted as outside just where they don't cover its
-- onset
abbrev pub OutsideIsNotCovered : Type 0
OutsideIsNotCovered = (d : ℕ) (records : List DataRecord) (run : Run) (a : Annotation) →
    IsListed d records run →
    (is_outside run.first (run_end d run) a ≡ true) ↔ (¬ Covers d records a.onset)
