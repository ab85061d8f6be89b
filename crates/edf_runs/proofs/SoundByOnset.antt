-- Sound data records stay sound by onset.
use Rattle.std.proofs.Common.{ℕ, ◌+◌, Bool, true, false, List, [], ◌∷◌, ◌++◌, All}
use Rattle.std.specs.Prelude.{cond, filter}
use Rattle.std.specs.List.{AllByRecursion}
use Rattle.std.proofs.lemmas.List.Elements.{All-head, All-tail}
use Rattle.edf_field.specs.Number.{duration_of}
use Rattle.edf_header.specs.Key.{Key}
use Rattle.edf_tal.specs.Tal.{Annotation, IsValidAnnotation}
use Rattle.edf_tal.specs.Block.{IsWithinLimits}
use Rattle.edf_fragment.specs.Fragment.{DataRecord}
use Rattle.edf_fragment.specs.Sound.{AreSoundFrom, IsSoundRecord}
use Rattle.edf_runs.specs.Order.{in_order}
use Rattle.edf_runs.proofs.Order.{order-all}
use Rattle.edf_runs.specs.ByOnset.{annotations_of, assigned, each_assigned, is_between}
use Rattle.edf_runs.specs.ByOnset.{StaySound}

pick-all : (P : Annotation → Type 0) (v : Bool) (a : Annotation) (rest : List Annotation) → P a →
    AllByRecursion P rest → AllByRecursion P (cond v (a ∷ rest) rest)
pick-all P true a rest one all = (one, all)
pick-all P false a rest one all = all

filter-all : (P : Annotation → Type 0) (p : Annotation → Bool) (rest : List Annotation) →
    AllByRecursion P rest → AllByRecursion P (filter p rest)
filter-all P p [] all = tt
filter-all P p (a ∷ rest) all =
    pick-all P (p a) a (filter p rest) all.0 (filter-all P p rest all.1)

append-all : (P : Annotation → Type 0) (rest bs : List Annotation) → AllByRecursion P rest →
    AllByRecursion P bs → AllByRecursion P (rest ++ bs)
append-all P [] bs all more = more
append-all P (a ∷ rest) bs all more = (all.0, append-all P rest bs all.1 more)

all-notes : (k : Key) (low : ℕ) (rs : List DataRecord) → AreSoundFrom k low rs →
    AllByRecursion IsValidAnnotation (annotations_of rs)
all-notes k low [] sound = tt
all-notes k low (r ∷ rs) sound =
    append-all IsValidAnnotation r.annotations (annotations_of rs) sound.0.notes
    (all-notes k (r.start + duration_of k.duration) rs sound.2)

abbrev within : DataRecord → Type 0
within r = IsWithinLimits r.annotations

module _ (k : Key) (all : List Annotation) (notes : AllByRecursion IsValidAnnotation all) where
  one-sound : (low : ℕ) (r : DataRecord) (rs : List DataRecord) → IsSoundRecord k r →
      within (assigned all low r rs) → IsSoundRecord k (assigned all low r rs)
  one-sound low r rs sound limits = record {
    samples_len = sound.samples_len;
    start = sound.start;
    limits = limits;
    notes = filter-all IsValidAnnotation (is_between low rs) all notes;
  }

  each-sound : (low : ℕ) (rs : List DataRecord) → AreSoundFrom k low rs →
      All within (each_assigned all rs) → AreSoundFrom k low (each_assigned all rs)
  each-sound low [] sound limits = tt
  each-sound low (r ∷ rs) sound limits = (
    one-sound r.start r rs sound.0
        (All-head within (assigned all r.start r rs) (each_assigned all rs) limits),
    sound.1,
    each-sound (r.start + duration_of k.duration) rs sound.2
        (All-tail within (assigned all r.start r rs) (each_assigned all rs) limits),
  )

pub stay-sound : StaySound
stay-sound k [] sound limits = tt
stay-sound k (r ∷ rs) sound limits =
    let all = in_order (annotations_of (r ∷ rs)) in
    let notes = order-all IsValidAnnotation (annotations_of (r ∷ rs)) (all-notes k 0
    (r ∷ rs) sound) in (
      one-sound k all notes 0 r rs sound.0
          (All-head within (assigned all 0 r rs) (each_assigned all rs) limits),
      sound.1,
      each-sound k all notes (r.start + duration_of k.duration) rs sound.2
          (All-tail within (assigned all 0 r rs) (each_assigned all rs) limits),
    )
