-- Nothing is lost where a file is split into its runs.
use Rattle.std.specs.Prelude.{◌≡◌, ℕ, ◌≤◌, List, [], length, All, Contains}
use Rattle.std.specs.List.{AllZip}
use Rattle.edf_field.specs.Number.{duration_of}
use Rattle.edf_header.specs.Key.{Key}
use Rattle.edf_fragment.specs.Fragment.{DataRecord, IsFragmentFile}
use Rattle.edf_fragment.specs.Parsed.{Parsed, ParsesTo}
use Rattle.edf_holdings.specs.Holdings.{Holdings, IsSound, with_records}
use Rattle.edf_holdings.specs.Reply.{after, IsAccepted, replies}
use Rattle.edf_runs.specs.Runs.{IsRuns}
use Rattle.edf_runs.specs.File.{IsRunFile}

-- a list of files that has the file of each run at least once, in any order, and no other file
pub record AreRunFiles (k : Key) (runs : List (List DataRecord)) (files : List (List ℕ)) : Type 0
  where
    pub each : (run : List DataRecord) → Contains runs run → (file : List ℕ) × Contains files file
        × IsRunFile file k run
    pub only : (file : List ℕ) → Contains files file → (run : List DataRecord) × Contains runs run
        × IsRunFile file k run

-- the runs of a file, submitted in any order and as often as one likes to a store that holds no
-- data record of its recording, are all accepted; then the store holds just the file's data records
-- of it, so that their file is that of the whole, and of other recordings what it held. (A run has
-- no file where the Startdate subfield is X and the run starts in 2085 or later.)
abbrev pub RunsRejoin : Type 0
RunsRejoin = (cap : ℕ) (h : Holdings) (bytes : List ℕ) (k : Key) (records : List DataRecord)
    (runs : List (List DataRecord))
    (files : List (List ℕ)) (submissions : List Parsed) → IsSound cap h → h k ≡ [] →
    IsFragmentFile bytes k records → length records ≤ cap →
    IsRuns (duration_of k.duration) records runs → AreRunFiles k runs files →
    AllZip ParsesTo files submissions →
    All IsAccepted (replies cap h submissions)
    × (after cap h submissions ≡ with_records k records h)
    × (after cap h submissions k ≡ records)
