-- Laws of filled files.
use Rattle.std.specs.Prelude.{◌≡◌, ◌≢◌, ℕ, ◌+◌, ◌-◌, ◌*◌, ◌/◌, ◌%◌, ◌<◌, ◌≤◌, List, ◌∷◌, length}
use Rattle.std.specs.Prelude.{All}
use Rattle.std.specs.List.{flat_map, range_with_len}
use Rattle.edf_field.specs.Number.{duration_of, field}
use Rattle.edf_header.specs.Key.{Key, IsKey}
use Rattle.edf_tal.specs.Tal.{Annotation}
use Rattle.edf_fragment.specs.Fragment.{DataRecord}
use Rattle.edf_fragment.specs.Sound.{AreSoundFrom}
use Rattle.edf_runs.specs.ByOnset.{by_onset}
use Rattle.edf_runs.specs.File.{IsRunFile}
use Rattle.edf_runs.specs.Filled.{place_of, Moves, IsFilled, IsFilledFile}
use Rattle.edf_runs.specs.Runs.{IsTouching}

-- Where a data record starts when g parts of an earlier one end, or later, it has later places.
abbrev pub PlacesRise : Type 0
PlacesRise = (u g first start later : ℕ) → 0 < u → first ≤ start → start + g * u ≤ later →
    place_of u first start + g ≤ place_of u first later

-- A place is no more than half a part from what stands there.
abbrev pub PlacesAreNear : Type 0
PlacesAreNear = (u first start : ℕ) → 0 < u → first ≤ start →
    (2 * (start - (first + place_of u first start * u)) ≤ u)
    × (2 * (first + place_of u first start * u - start) ≤ u)

-- The parts of a data record stand one after another: each at the place of its own start.
abbrev pub PartsStayTogether : Type 0
PartsStayTogether = (u first start n : ℕ) → 0 < u → first ≤ start →
    place_of u first (start + n * u) ≡ place_of u first start + n

-- An annotation moves by no more than half a part.
abbrev pub AnnotationsMoveLittle : Type 0
AnnotationsMoveLittle = (k : Key) (g u first : ℕ) (records : List DataRecord) (a to : Annotation) →
    0 < u → All (λ r. first ≤ r.start) records → Moves k g u first records a to →
    (2 * (to.onset - a.onset) ≤ u) × (2 * (a.onset - to.onset) ≤ u)

-- The parts of a signal, one after another, are the signal.
abbrev pub PartsAreWhole : Type 0
PartsAreWhole = (signal : List ℕ) (g : ℕ) → 0 < g → length signal % g ≡ 0 →
    flat_map (λ n. field signal (n * (length signal / g)) (length signal / g))
    (range_with_len 0 g) ≡ signal

-- The filled file of a recording that has a gap is of another recording.
abbrev pub IsOtherRecording : Type 0
IsOtherRecording = (k key : Key) (r : DataRecord) (rs : List DataRecord) (g u : ℕ)
    (others : List DataRecord) → (¬ IsTouching (duration_of k.duration) (r ∷ rs)) →
    IsFilled k r rs g u key others → key ≢ k

-- That of a recording without a gap is the file of its one run, with annotations by onset.
abbrev pub IsOneRun : Type 0
IsOneRun = (file : List ℕ) (k : Key) (records : List DataRecord) → IsKey k →
    AreSoundFrom k 0 records → IsTouching (duration_of k.duration) records →
    IsFilledFile file k records → IsRunFile file k (by_onset records)
