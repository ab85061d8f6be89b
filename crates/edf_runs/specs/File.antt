-- The file of a run: EDF+C, which readers take that refuse EDF+D.
use Rattle.std.specs.Prelude.{◌≡◌, ℕ, List, ◌++◌, take, drop, codes}
use Rattle.edf_field.specs.Number.{duration_of}
use Rattle.edf_header.specs.Key.{Key}
use Rattle.edf_header.specs.Fields.{reserved_field}
use Rattle.edf_fragment.specs.Fragment.{DataRecord, IsFragmentFile}
use Rattle.edf_canonical.specs.File.{IsCanonicalFile}
use Rattle.edf_runs.specs.Runs.{IsTouching}

-- the bytes with EDF+C at the front of the reserved field, which is at offset 192
abbrev pub marked_continuous : List ℕ → List ℕ
marked_continuous bytes = take 192 bytes ++ codes "EDF+C" ++ drop 197 bytes

-- the file of data records without a gap: their canonical file, with the mark EDF+C in place of
-- EDF+D
pub record IsRunFile (bytes : List ℕ) (k : Key) (run : List DataRecord) : Type 0 where
  pub touching : IsTouching (duration_of k.duration) run
  pub canonical : List ℕ
  pub is_canonical : IsCanonicalFile canonical k run
  pub marked : bytes ≡ marked_continuous canonical

-- what readers may rely on: it is marked EDF+C, and spells the run's key and its data records, each
-- of which starts where the one before ends
pub record IsContinuous (bytes : List ℕ) (k : Key) (run : List DataRecord) : Type 0 where
  pub mark : take 5 (reserved_field bytes) ≡ codes "EDF+C"
  pub spells : IsFragmentFile bytes k run
  pub no_gap : IsTouching (duration_of k.duration) run
