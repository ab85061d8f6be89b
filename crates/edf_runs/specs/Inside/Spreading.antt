-- All annotations of a file, in order, are spread over its data records, one after another.
use Rattle.std.specs.Prelude.{ℕ, ◌≤◌, List, [], ◌∷◌, length, take, drop, nat_lt}
use Rattle.std.specs.List.{prefix_len}
use Rattle.edf_tal.specs.Tal.{Annotation}
use Rattle.edf_fragment.specs.Fragment.{DataRecord}

-- So many come before the data records that follow: all, where none does.
abbrev pub count_before : List Annotation → List DataRecord → ℕ
count_before notes [] = length notes
count_before notes (next ∷ rest) = prefix_len (λ (a : Annotation). nat_lt a.onset next.start) notes

-- Each data record has those before the ones that follow.
abbrev pub spread : List Annotation → List DataRecord → List DataRecord
spread notes [] = []
spread notes (r ∷ rs) = record {
  start = r.start;
  samples = r.samples;
  annotations = take (count_before notes rs) notes;
} ∷ spread (drop (count_before notes rs) notes) rs

-- Their onsets rise from an instant on.
abbrev pub RiseFrom : ℕ → List Annotation → Type 0
RiseFrom low [] = Unit {0}
RiseFrom low (a ∷ others) = (low ≤ a.onset) × RiseFrom a.onset others
