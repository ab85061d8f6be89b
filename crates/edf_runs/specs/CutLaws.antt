-- Laws of outlines and of cut files.
use Rattle.std.specs.Prelude.{◌≡◌, ◌⊎◌, ◌↔◌, ℕ, ◌^◌, ◌-◌, ◌≤◌, ◌<◌, List, [], length, Option, Some}
use Rattle.std.specs.Prelude.{All}
use Rattle.std.specs.Prelude.{Contains}
use Rattle.std.specs.List.{AllZip}
use Rattle.edf_field.specs.Number.{duration_of}
use Rattle.edf_header.specs.Key.{Key, IsKey}
use Rattle.edf_fragment.specs.Fragment.{DataRecord, IsFragmentFile}
use Rattle.edf_fragment.specs.Parsed.{Parsed, ParsesTo}
use Rattle.edf_fragment.specs.Sound.{AreSoundFrom}
use Rattle.edf_holdings.specs.Clash.{IntervalContains}
use Rattle.edf_holdings.specs.Holdings.{Holdings, IsSound, with_records}
use Rattle.edf_holdings.specs.Reply.{after, IsAccepted, replies}
use Rattle.edf_runs.specs.ByOnset.{by_onset}
use Rattle.edf_runs.specs.Cut.{between, IsCutFile}
use Rattle.edf_runs.specs.Outline.{IsOutline, ReadsOutline}
use Rattle.edf_runs.specs.Twice.{AreJoined}
use Rattle.edf_runs.specs.declared.outline.Outline.{Outline}

-- The outline of a file is of what its bytes spell.
abbrev pub IsOfItsFile : Type 0
IsOfItsFile = (bytes : List ℕ) (rest : Option (List ℕ)) (k : Key) (records : List DataRecord)
    (outline : Outline) → ReadsOutline (Some bytes) rest outline → IsFragmentFile bytes k records →
    IsOutline k records outline

-- All data records last in the time from 1985 on, so the cut file of that is the canonical file.
abbrev pub HasAll : Type 0
HasAll = (k : Key) (records : List DataRecord) → IsKey k → AreSoundFrom k 0 records →
    between (duration_of k.duration) 0 (2 ^ 64 - 1) records ≡ records

-- Data records that are joined of those by onset and of others are by onset themselves.
abbrev pub StayByOnset : Type 0
StayByOnset = (k : Key) (ones others records sorted : List DataRecord) →
    AreSoundFrom k 0 records → AreJoined ones others records →
    AreJoined (by_onset ones) others sorted → sorted ≡ by_onset records

-- Of a time those are taken that last at one of its instants, so that an empty time has none.
abbrev pub TakesWhatMeets : Type 0
TakesWhatMeets = (d from to : ℕ) (records : List DataRecord) (r : DataRecord) →
    Contains (between d from to records) r ↔ (Contains records r
    × ((instant : ℕ) × IntervalContains d r instant × (from ≤ instant) × (instant < to)))

-- A file is one of a recording, or a cut file of it.
abbrev pub IsWholeOrCut : List ℕ → Key → List DataRecord → List ℕ → Type 0
IsWholeOrCut whole k records file =
    (file ≡ whole) ⊎ ((from : ℕ) × (to : ℕ) × IsCutFile file k records from to)

-- Such files, submitted in any order and as often as one likes to a store that holds no data record
-- of the recording, are all accepted. Where the whole is among them, the store then holds just its
-- data records, and of other recordings what it held.
abbrev pub CutsAreTaken : Type 0
CutsAreTaken = (cap : ℕ) (h : Holdings) (k : Key) (records : List DataRecord) (whole : List ℕ)
    (files : List (List ℕ)) (submissions : List Parsed) → IsSound cap h → h k ≡ [] →
    length records ≤ cap → IsFragmentFile whole k records →
    All (IsWholeOrCut whole k records) files →
    AllZip ParsesTo files submissions → All IsAccepted (replies cap h submissions)
    × (Contains files whole → (after cap h submissions ≡ with_records k records h)
    × (after cap h submissions k ≡ records))
