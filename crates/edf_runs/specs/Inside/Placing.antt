-- The samples of a filled file, data record after data record.
use Rattle.std.specs.Prelude.{ℕ, zero, suc, ◌+◌, ◌-◌, List, [], ◌∷◌, ◌++◌, replicate, map}
use Rattle.edf_header.specs.Key.{Key}
use Rattle.edf_tal.specs.Tal.{Annotation}
use Rattle.edf_fragment.specs.Fragment.{DataRecord}
use Rattle.edf_runs.specs.Filled.{place_of, part_samples}
use Rattle.edf_runs.specs.Inside.Spreading.{spread}

-- So many parts of the samples of one data record, from the nth on.
abbrev pub parts_from : (ℕ → List ℕ → List ℕ) → List ℕ → ℕ → ℕ → List (List ℕ)
parts_from part samples n zero = []
parts_from part samples n (suc m) = part n samples ∷ parts_from part samples (n + 1) m

-- From the next place on, g parts of each data record stand at its place, and flat samples between.
abbrev pub placed : ℕ → (ℕ → List ℕ → List ℕ) → List ℕ → ℕ → List (ℕ × List ℕ) → List (List ℕ)
placed g part flat next [] = []
placed g part flat next (x ∷ xs) = replicate (x.0 - next) flat
    ++ (parts_from part x.1 0 g ++ placed g part flat (x.0 + g) xs)

-- Data records of such samples, one after another from an instant on, without annotations.
abbrev pub bare : ℕ → ℕ → List (List ℕ) → List DataRecord
bare u instant [] = []
bare u instant (samples ∷ others) =
    record { start = instant; samples = samples; annotations = [] } ∷ bare u (instant + u) others

-- Each data record has its place and its samples.
abbrev pub at_places : ℕ → ℕ → List DataRecord → List (ℕ × List ℕ)
at_places u first records = map (λ (r : DataRecord). (place_of u first r.start, r.samples)) records

-- The data records of a filled file, whose annotations are these, in order.
abbrev pub filled_records : Key → ℕ → ℕ → ℕ → List ℕ → List Annotation → List DataRecord →
    List DataRecord
filled_records k g u first flat notes records = spread notes
    (bare u first (placed g (part_samples k g) flat 0 (at_places u first records)))
