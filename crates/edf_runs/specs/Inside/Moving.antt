-- Where the annotations of a filled file go.
use Rattle.std.specs.Prelude.{◌≡◌, ℕ, ◌+◌, ◌-◌, ◌*◌, ◌<◌, ◌≤◌, List, map, All, Contains, codes}
use Rattle.std.specs.Prelude.{Option, Some, None}
use Rattle.edf_tal.specs.Tal.{Annotation}
use Rattle.edf_runs.specs.Filled.{place_of}
use Rattle.edf_runs.specs.Inside.Stretching.{stretches}
use Rattle.edf_runs.specs.declared.parted.Parted.{Parted}

-- An instant lies in the data record of this start, or in none; each lasts d nanoseconds.
abbrev pub LiesIn : ℕ → List ℕ → ℕ → Option ℕ → Type 0
LiesIn d starts instant None = All (λ s. s ≤ instant → s + d ≤ instant) starts
LiesIn d starts instant (Some s) = Contains starts s × (s ≤ instant) × (instant < s + d)

-- It moves with that data record, or stays.
abbrev pub moved_with : Parted → ℕ → Option ℕ → ℕ
moved_with p instant None = instant
moved_with p instant (Some s) =
    p.first + place_of p.division.unit p.first s * p.division.unit + (instant - s)

abbrev pub MovesTo : Parted → ℕ → ℕ → Type 0
MovesTo p instant to = (start : Option ℕ) × LiesIn p.duration p.starts.now instant start
    × (to ≡ moved_with p instant start)

pub record MovesNote (p : Parted) (a to : Annotation) : Type 0 where
  pub duration : to.duration ≡ a.duration
  pub text : to.text ≡ a.text
  pub onset : MovesTo p a.onset to.onset

-- The annotations of stretches of places that have no part.
abbrev pub notes_of : ℕ → ℕ → List (ℕ × ℕ) → List Annotation
notes_of unit first all = map (λ (x : ℕ × ℕ). record {
  onset = first + x.0 * unit;
  duration = Some (x.1 * unit);
  text = codes "Not recorded";
}) all

abbrev pub stretch_notes : Parted → ℕ → List ℕ → List Annotation
stretch_notes p next starts = notes_of p.division.unit p.first
    (stretches p.division.parts next (map (place_of p.division.unit p.first) starts))
