-- The places of a filled file that are to come, and the step from one to the next.
use Rattle.std.specs.Prelude.{◌≡◌, ℕ, ◌+◌, ◌-◌, ◌*◌, ◌<◌, ◌≤◌, List, [], ◌∷◌, ◌++◌, map, take, drop}
use Rattle.std.specs.Prelude.{Option, Some, None}
use Rattle.edf_tal.specs.Tal.{Annotation}
use Rattle.edf_fragment.specs.Fragment.{DataRecord}
use Rattle.edf_runs.specs.Filled.{place_of}
use Rattle.edf_runs.specs.Inside.Dividing.{part_of}
use Rattle.edf_runs.specs.Inside.Placing.{parts_from, placed, bare, at_places}
use Rattle.edf_runs.specs.Inside.Spreading.{count_before, spread}
use Rattle.edf_runs.specs.Inside.Stretching.{Rise}
use Rattle.edf_runs.specs.declared.filled_places.Origin.{Origin}
use Rattle.edf_runs.specs.declared.filled_places.Origin.TheVariants.{Flat, First, Later}
use Rattle.edf_runs.specs.declared.filled_places.Place.{Place}
use Rattle.edf_runs.specs.declared.filled_places.Places.{Places}
use Rattle.edf_runs.specs.declared.parted.FilledParts.{FilledParts}

-- Data records have these starts.
abbrev pub StartAt : List ℕ → List DataRecord → Type 0
StartAt starts records = map (λ (r : DataRecord). r.start) records ≡ starts

module _ (parts : FilledParts) where
  -- The samples of a part of a data record.
  abbrev pub part_by : ℕ → List ℕ → List ℕ
  part_by = part_of parts.sizes.items parts.division.parts

  -- When a place starts.
  abbrev pub place_start : ℕ → ℕ
  place_start nth = parts.first + nth * parts.division.unit

  -- Samples from a place on: those of so many parts that are left of a data record, and then those
  -- of others that follow it.
  abbrev pub samples_from : ℕ → ℕ → List ℕ → List DataRecord → List (List ℕ)
  samples_from nth left last next = parts_from part_by last (parts.division.parts - left) left
      ++ placed parts.division.parts part_by parts.flat.items (nth + left)
      (at_places parts.division.unit parts.first next)

  -- Data records from a place on.
  abbrev pub records_from : ℕ → ℕ → List ℕ → List Annotation → List DataRecord → List DataRecord
  records_from nth left last notes next = spread notes
      (bare parts.division.unit (place_start nth) (samples_from nth left last next))

-- Data records that have no place yet have later ones.
abbrev pub IsPlaced : Places → Type 0
IsPlaced p = (p.left ≤ p.parts.now.division.parts)
    × Rise p.parts.now.division.parts (p.nth + p.left)
    (map (place_of p.parts.now.division.unit p.parts.now.first) p.later.now)

-- The places that are to come have these samples, and are these data records.
abbrev pub samples_to_come : Places → List ℕ → List DataRecord → List (List ℕ)
samples_to_come p last next = samples_from p.parts.now p.nth p.left last next

abbrev pub to_come : Places → List ℕ → List DataRecord → List DataRecord
to_come p last next = records_from p.parts.now p.nth p.left last p.notes.now next

-- So many annotations are before those places, the first of which starts then.
abbrev pub CountsBefore : Places → ℕ → ℕ → Type 0
CountsBefore p end count = (last : List ℕ) (next : List DataRecord) → StartAt p.later.now next →
    count ≡ count_before p.notes.now
    (bare p.parts.now.division.unit end (samples_to_come p last next))

-- The first of them has these samples, and others follow it.
abbrev pub Comes : Places → Places → Origin → Type 0
Comes from to Flat = (to.later.now ≡ from.later.now)
    × ((last : List ℕ) (next : List DataRecord) → StartAt to.later.now next →
    samples_to_come from last next ≡ from.parts.now.flat.items ∷ samples_to_come to last next)
Comes from to (First start) = (from.later.now ≡ start ∷ to.later.now)
    × ((last : List ℕ) (r : DataRecord) (next : List DataRecord) → r.start ≡ start →
    StartAt to.later.now next → samples_to_come from last (r ∷ next)
    ≡ part_by from.parts.now 0 r.samples ∷ samples_to_come to r.samples next)
Comes from to (Later nth) = (to.later.now ≡ from.later.now)
    × ((last : List ℕ) (next : List DataRecord) → StartAt to.later.now next →
    samples_to_come from last next
    ≡ part_by from.parts.now nth last ∷ samples_to_come to last next)

-- A part has a number below that of the parts.
abbrev pub IsPart : ℕ → Origin → Type 0
IsPart parts Flat = 0 < parts
IsPart parts (First start) = 0 < parts
IsPart parts (Later nth) = nth < parts

-- The next place was passed, but for its annotations.
pub record Advances (from to : Places) (origin : Origin) : Type 0 where
  pub parts : to.parts ≡ from.parts
  pub notes : to.notes ≡ from.notes
  pub nth : to.nth ≡ from.nth + 1
  pub part : IsPart from.parts.now.division.parts origin
  pub goes : IsPlaced from → IsPlaced to × Comes from to origin

-- The next place is this one.
pub record TakesPlace (from to : Places) (place : Place) : Type 0 where
  pub parts : to.parts ≡ from.parts
  pub start : place.start ≡ place_start from.parts.now from.nth
  pub nth : to.nth ≡ from.nth + 1
  pub part : IsPart from.parts.now.division.parts place.origin
  pub goes : IsPlaced from → IsPlaced to × Comes from to place.origin
  pub count : ℕ
  pub here : place.notes.items ≡ take count from.notes.now
  pub later : to.notes.now ≡ drop count from.notes.now
  pub counted : IsPlaced from → (last : List ℕ) (next : List DataRecord) →
      StartAt to.later.now next → count ≡ count_before from.notes.now
      (bare from.parts.now.division.unit (place.start + from.parts.now.division.unit)
      (samples_to_come to last next))

abbrev pub TakesNext : Places → Places → Option Place → Type 0
TakesNext from to None = (from.left ≡ 0) × (from.later.now ≡ []) × (to ≡ from)
TakesNext from to (Some place) = TakesPlace from to place
