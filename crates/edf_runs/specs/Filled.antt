-- One EDF+C file shows a whole recording: parts of its data records stand at places that are a part
-- apart, and flat samples at each place between them that has none.
use Rattle.std.specs.Prelude.{◌≡◌, ℕ, ◌+◌, ◌-◌, ◌*◌, ◌/◌, ◌%◌, ◌^◌, ◌<◌, ◌≤◌, ◌==◌, List, []}
use Rattle.std.specs.Prelude.{◌∷◌, ◌++◌, length, map, take, drop, slice_get, option_map, Some}
use Rattle.std.specs.Prelude.{All, Contains, IsPermutation, codes, if◌then◌else◌}
use Rattle.std.specs.List.{flat_map, AllZip}
use Rattle.std.specs.List.Sorted.{IsStrictlyIncreasing}
use Rattle.std.specs.Fmt.{decimal}
use Rattle.edf_time.specs.Decimal.{short}
use Rattle.edf_field.specs.Number.{duration_of, field}
use Rattle.edf_field.specs.Text.{padded_to}
use Rattle.edf_header.specs.Flat.{AreFlat}
use Rattle.edf_header.specs.Key.{Key}
use Rattle.edf_header.specs.Signal.{samples}
use Rattle.edf_tal.specs.Block.{split_by_sizes}
use Rattle.edf_tal.specs.Tal.{Annotation}
use Rattle.edf_fragment.specs.Fragment.{DataRecord}
use Rattle.edf_holdings.specs.Clash.{IntervalContains}
use Rattle.edf_runs.specs.ByOnset.{annotations_of, by_onset}
use Rattle.edf_runs.specs.File.{IsRunFile}
use Rattle.edf_runs.specs.Runs.{IsTouching, StartFrom}

-- Data records may be divided into g parts of u nanoseconds: a header can name u, and each signal's
-- samples divide evenly.
pub record Divides (k : Key) (g u : ℕ) : Type 0 where
  pub whole : g * u ≡ duration_of k.duration
  pub even : All (λ row. samples row % g ≡ 0) k.signals
  pub named : length (short u) ≤ 8

-- They are divided into the fewest that last at most a second; where none do, into the most.
pub record IsDivision (k : Key) (g u : ℕ) : Type 0 where
  pub divides : Divides k g u
  pub fewest : (g' u' : ℕ) → Divides k g' u' → u' ≤ 10 ^ 9 → (u ≤ 10 ^ 9) × (g ≤ g')
  pub most : (g' u' : ℕ) → Divides k g' u' → 10 ^ 9 < u → g' ≤ g

-- The place of an instant is how many parts of u nanoseconds it lies after the first, to the
-- nearest.
abbrev pub place_of : ℕ → ℕ → ℕ → ℕ
place_of u first instant = (2 * (instant - first) + u) / (2 * u)

-- The nth of g parts has of each signal's samples in a data record the nth part.
abbrev pub part_samples : Key → ℕ → ℕ → List ℕ → List ℕ
part_samples k g n bytes =
    flat_map (λ signal. field signal (n * (length signal / g)) (length signal / g))
    (split_by_sizes (map (λ row. 2 * samples row) k.signals) bytes)

-- A field has ` filled` behind the last word of an old one.
abbrev pub IsMarked : List ℕ → List ℕ → Type 0
IsMarked old new = (text : List ℕ) × (¬ (slice_get text (length text - 1) ≡ Some 32))
    × (old ≡ padded_to (length old) text) × (new ≡ padded_to (length old) (text ++ codes " filled"))
    × (length new ≡ length old)

-- So a filled file is of another recording, whose data records are such parts.
pub record IsFilledKey (k : Key) (g u : ℕ) (key : Key) : Type 0 where
  pub same : (key.patient ≡ k.patient) × (key.dated ≡ k.dated)
  pub marked : IsMarked k.after key.after
  pub duration : key.duration ≡ (if g == 1 then k.duration else padded_to 8 (short u))
  pub signals : key.signals ≡ map (λ row. if g == 1 then row
      else take 216 row ++ padded_to 8 (decimal (samples row / g)) ++ drop 224 row) k.signals

module _ (k : Key) (g u first : ℕ) (records : List DataRecord) where
  -- No part of a data record stands at a free place.
  abbrev pub IsFree : ℕ → Type 0
  IsFree place = (r : DataRecord) → Contains records r → place_of u first r.start ≤ place →
      place_of u first r.start + g ≤ place

  -- Each part's samples stand at its place, and flat ones at free places up to the last part.
  pub record HaveSamples (flat : List ℕ) (others : List DataRecord) : Type 0 where
    pub starts : StartFrom u first others
    pub parts : (r : DataRecord) (n : ℕ) → Contains records r → n < g →
        option_map (λ other. other.samples) (slice_get others (place_of u first r.start + n))
        ≡ Some (part_samples k g n r.samples)
    pub free : (place : ℕ) (other : DataRecord) → IsFree place →
        slice_get others place ≡ Some other → other.samples ≡ flat
    pub last : ¬ IsFree (length others - 1)

  -- An annotation moves with the data record in which it happened, and else stays.
  pub record Moves (a to : Annotation) : Type 0 where
    pub same : (to.duration ≡ a.duration) × (to.text ≡ a.text)
    pub moved : (r : DataRecord) → Contains records r →
        IntervalContains (duration_of k.duration) r a.onset →
        to.onset ≡ first + place_of u first r.start * u + (a.onset - r.start)
    pub stays : All (λ r. ¬ IntervalContains (duration_of k.duration) r a.onset) records → to ≡ a

  -- So many places from this one on are free, and neither the one before nor the one behind.
  pub record IsStretch (place count : ℕ) : Type 0 where
    pub some : 1 ≤ count
    pub free : (n : ℕ) → n < count → IsFree (place + n)
    pub ends : (¬ IsFree (place - 1)) × (¬ IsFree (place + count))

  -- An annotation says so, at their start and as long as they are.
  abbrev pub stretch_note : ℕ → ℕ → Annotation
  stretch_note place count =
      record { onset = first + place * u; duration = Some (count * u); text = codes "Not recorded" }

  -- Each annotation of the recording is there once, and one for each stretch, all by onset.
  pub record HaveAnnotations (others : List DataRecord) : Type 0 where
    pub moved : List Annotation
    pub notes : List Annotation
    pub each : AllZip Moves (annotations_of records) moved
    pub told : (place count : ℕ) → IsStretch place count → Contains notes (stretch_note place count)
    pub only : (a : Annotation) → Contains notes a → (place : ℕ) × (count : ℕ)
        × IsStretch place count × (a ≡ stretch_note place count)
    pub once : IsStrictlyIncreasing (map (λ a. a.onset) notes)
    pub together : IsPermutation (annotations_of others) (moved ++ notes)
    pub placed : by_onset others ≡ others

-- They are the filled data records of a recording; one without a gap keeps its key and its own.
pub record IsFilled (k : Key) (r : DataRecord) (rs : List DataRecord) (g u : ℕ) (key : Key)
    (others : List DataRecord) : Type 0 where
  pub lasts : u ≡ duration_of key.duration
  pub whole : IsTouching (duration_of k.duration) (r ∷ rs) → (g ≡ 1) × (key ≡ k)
  pub divided : (¬ IsTouching (duration_of k.duration) (r ∷ rs)) →
      IsDivision k g u × IsFilledKey k g u key
  pub flat : List ℕ
  pub are_flat : AreFlat key.signals flat
  pub samples : HaveSamples k g u r.start (r ∷ rs) flat others
  pub annotations : HaveAnnotations k g u r.start (r ∷ rs) others

-- The bytes are the filled file of a recording.
abbrev pub IsFilledFile : List ℕ → Key → List DataRecord → Type 0
IsFilledFile bytes k [] = ⊥
IsFilledFile bytes k (r ∷ rs) = (g : ℕ) × (u : ℕ) × (key : Key) × (others : List DataRecord)
    × IsFilled k r rs g u key others × IsRunFile bytes key others
