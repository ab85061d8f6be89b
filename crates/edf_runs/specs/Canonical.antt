-- The canonical file of a recording, by two readings of it.
use Rattle.std.specs.Prelude.{◌≡◌, ◌≢◌, ◌⊎◌, ℕ, List, length, Option, Some}
use Rattle.std.specs.Io.KnownBytes.{Appends, Keeps}
use Rattle.edf_header.specs.Header.{Layout}
use Rattle.edf_header.specs.Key.{Key}
use Rattle.edf_fragment.specs.Fragment.{DataRecord, IsFragmentFile}
use Rattle.edf_fragment.specs.Whole.{ReadsFragment}
use Rattle.edf_canonical.specs.File.{IsCanonicalFile}
use Rattle.edf_canonical.specs.Output.{WritesPrefix}
use Rattle.edf_runs.specs.Twice.{AreJoined}
use Rattle.edf_runs.specs.declared.fault.WriteFault.{WriteFault}
use Rattle.edf_runs.specs.declared.fault.WriteFault.TheVariants.{Undated, Changed}

-- The whole input was read again, and the canonical file went out, with the starts and annotations
-- of an outline's data records and the samples of those that were read; this is its length.
pub record IsCanonicalWritten (again rest before after : Option (List ℕ)) (k : Key)
    (ones : List DataRecord) (len : ℕ) : Type 0 where
  pub layout : Layout
  pub same : layout.key ≡ k
  pub others : List DataRecord
  pub read : ReadsFragment again rest layout others
  pub records : List DataRecord
  pub joined : AreJoined ones others records
  pub file : List ℕ
  pub is_file : IsCanonicalFile file k records
  pub wrote : Appends before after file
  pub len_is : len ≡ length file

-- Why it did not go out whole. Of an input that still is a file with these starts nothing did, or a
-- prefix of the canonical file; and it is not told as one that changed.
pub record IsCanonicalUnwritten (again before after : Option (List ℕ)) (k : Key)
    (ones : List DataRecord) (fault : WriteFault) : Type 0 where
  pub dated : fault ≢ Undated
  pub unchanged : (bytes : List ℕ) (others records : List DataRecord) → again ≡ Some bytes →
      IsFragmentFile bytes k others → AreJoined ones others records → (fault ≢ Changed)
      × (Keeps before after ⊎ ((file : List ℕ) × IsCanonicalFile file k records
      × WritesPrefix before after file))
