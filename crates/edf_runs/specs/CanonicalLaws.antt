-- Laws of the canonical file by onset.
use Rattle.std.specs.Prelude.{ℕ, List, Option, Some, IsPermutation}
use Rattle.std.specs.List.{AllZip}
use Rattle.std.specs.Io.KnownBytes.{Appends}
use Rattle.edf_header.specs.Key.{Key}
use Rattle.edf_fragment.specs.Fragment.{DataRecord, IsFragmentFile}
use Rattle.edf_fragment.specs.Sound.{AreSoundFrom}
use Rattle.edf_canonical.specs.File.{IsCanonicalFile}
use Rattle.edf_runs.specs.ByOnset.{annotations_of, by_onset, AreAlike}
use Rattle.edf_runs.specs.Canonical.{IsCanonicalWritten}
use Rattle.edf_runs.specs.Twice.{AreJoined}

-- A file that has the same bytes in the second reading has the starts of its data records by onset,
-- so that it is not told as one that changed.
abbrev pub StayJoined : Type 0
StayJoined = (k : Key) (records : List DataRecord) → AreSoundFrom k 0 records →
    AreJoined (by_onset records) records (by_onset records)

-- A file of these bytes was read again, and this went out by the outline of its data records by
-- onset.
pub record GoesOutByOnset (bytes : List ℕ) (k : Key) (records : List DataRecord)
    (before after : Option (List ℕ)) : Type 0 where
  pub rest : Option (List ℕ)
  pub len : ℕ
  pub written : IsCanonicalWritten (Some bytes) rest before after k (by_onset records) len

-- It is the canonical file of the data records by onset.
abbrev pub WritesByOnset : Type 0
WritesByOnset = (bytes : List ℕ) (k : Key) (records : List DataRecord)
    (before after : Option (List ℕ)) → IsFragmentFile bytes k records →
    GoesOutByOnset bytes k records before after →
    (file : List ℕ) × IsCanonicalFile file k (by_onset records) × Appends before after file

-- Of two files of one recording with the same times, samples and annotations the same bytes go out,
-- however their annotations were spread over the data records, and in whatever order: one canonical
-- file, which both have by onset.
abbrev pub WritesAlike : Type 0
WritesAlike = (bytes other : List ℕ) (k : Key) (records others : List DataRecord)
    (before after from to : Option (List ℕ)) → IsFragmentFile bytes k records →
    IsFragmentFile other k others →
    AllZip AreAlike records others →
    IsPermutation (annotations_of records) (annotations_of others) →
    GoesOutByOnset bytes k records before after → GoesOutByOnset other k others from to →
    (file : List ℕ) × IsCanonicalFile file k (by_onset records)
    × IsCanonicalFile file k (by_onset others) × Appends before after file × Appends from to file
