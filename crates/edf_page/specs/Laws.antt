-- Laws of what comes of files: it is one thing, but for pictures, and it is what the programs write
-- of the same files.
use Rattle.std.specs.Prelude.{◌≡◌, ◌≢◌, ℕ, List, ◌∷◌, [], Option, Some, None, map}
use Rattle.std.specs.List.{AllZip, flat_map}
use Rattle.sqlite_trees.specs.declared.memory.MemStore.{MemStore}
use Rattle.sqlite.specs.Steps.{over_memory}
use Rattle.edf_header.specs.Key.{Key}
use Rattle.edf_fragment.specs.Fragment.{DataRecord}
use Rattle.edf_fragment.specs.Parsed.{Parsed, ParsesTo}
use Rattle.edf_holdings.specs.Holdings.{nothing_held}
use Rattle.edf_store.specs.Held.{StoreModel}
use Rattle.edf_store.specs.declared.fault.StoreFault.TheVariants as refused
use Rattle.edf_cli.specs.Output.{OutputChange}
use Rattle.edf_cli.specs.declared.status.Status.{Status}
use Rattle.edf_cli.specs.declared.status.Status.TheVariants.{Done, Trouble}
use Rattle.edf_command.specs.Lines.{store_refused_line}
use Rattle.edf_command.specs.Taking.{IsTaken}
use Rattle.edf_export.specs.Headline.{IsOnlyCanonicalFile}
use Rattle.edfruns_command.specs.Listed.{IsListOut}
use Rattle.edf_page.specs.Inside.{HasIn}
use Rattle.edf_page.specs.Night.{AreTaken, AreRunLines, IsNight, taken_lines, stopped_line}
use Rattle.edf_page.specs.Programs.{IsText}
use Rattle.edf_page.specs.declared.night.GivenNight.{GivenNight}
use Rattle.edf_page.specs.declared.night.Recording.{Recording}
use Rattle.edf_page.specs.declared.stopped.Stopped.TheVariants.{Memory, Store}

-- ---- one thing

-- recordings have the same file and the same runs
abbrev pub AreAlike : Recording → Recording → Type 0
AreAlike r other = (r.file.items ≡ other.file.items) × (r.runs.items ≡ other.runs.items)

-- nights are the same but for pictures
pub record AreNightsAlike (night other : GivenNight) : Type 0 where
  pub taken : taken_lines night ≡ taken_lines other
  pub listed : night.listed.items ≡ other.listed.items
  pub each : AllZip AreAlike night.recordings.items other.recordings.items

-- of the same files the same comes
abbrev pub OneNightComes : Type 0
OneNightComes = (names files : List (List ℕ)) (night other : GivenNight) →
    IsNight names files night → IsNight names files other → AreNightsAlike night other

-- ---- the programs

-- what `edfstore take` writes of these files, where they are taken into a store that holds nothing
-- and there is no trouble, is their lines, joined
abbrev pub TakeWritesLines : Type 0
TakeWritesLines = (old new : StoreModel MemStore) (out err : OutputChange)
    (bytes : List ℕ → Option (List ℕ)) (names files lines : List (List ℕ))
    (submissions : List Parsed)
    (text : List ℕ) (status : Status) → HasIn old nothing_held → map bytes names ≡ map Some files →
    AllZip ParsesTo files submissions → AreTaken names submissions lines → IsText out text →
    status ≢ Trouble →
    IsTaken over_memory old new out err bytes names status → text ≡ flat_map (λ line. line) lines

-- what `edfruns list` writes of the one file of a recording, where it is done, is the lines of its
-- runs
abbrev pub ListWritesRuns : Type 0
ListWritesRuns = (out err : OutputChange) (file name text lines : List ℕ) (k : Key)
    (records : List DataRecord) → IsOnlyCanonicalFile file k records →
    AreRunLines k records lines → IsText out text →
    IsListOut (λ _. Some file) out err (name ∷ []) Done → text ≡ lines

-- why nothing is given is told as `edfstore` tells why its store can't be opened
abbrev pub StoppedAsRefused : Type 0
StoppedAsRefused = (stopped_line Memory ≡ store_refused_line refused.Memory)
    × (stopped_line Store ≡ store_refused_line (refused.Store None))
