-- The cut file of a recording has its data records of a time.
use Rattle.std.specs.Prelude.{ℕ, ◌+◌, min, max, nat_lt, List, filter}
use Rattle.edf_field.specs.Number.{duration_of}
use Rattle.edf_header.specs.Key.{Key}
use Rattle.edf_fragment.specs.Fragment.{DataRecord}
use Rattle.edf_canonical.specs.File.{IsCanonicalFile}

-- These have time in common with that between two instants; those that only touch it have none.
abbrev pub between : ℕ → ℕ → ℕ → List DataRecord → List DataRecord
between d from to records = filter (λ r. nat_lt (max from r.start) (min to (r.start + d))) records

-- The bytes are the canonical file of just these, with their own annotations.
abbrev pub IsCutFile : List ℕ → Key → List DataRecord → ℕ → ℕ → Type 0
IsCutFile bytes k records from to =
    IsCanonicalFile bytes k (between (duration_of k.duration) from to records)
