-- The canonical EDF+D file of a recording: the one file of its data records.
use Rattle.std.specs.Prelude.{◌≡◌, ℕ, ◌+◌, ◌-◌, ◌*◌, ◌/◌, ◌^◌, ◌≤◌, List, [], ◌∷◌, ◌++◌, length}
use Rattle.std.specs.Prelude.{replicate, All}
use Rattle.std.specs.List.{flat_map}
use Rattle.edf_header.specs.Key.{Key}
use Rattle.edf_header.specs.Canonical.{IsCanonicalHeader}
use Rattle.edf_tal.specs.Canonical.{tals_text}
use Rattle.edf_fragment.specs.Fragment.{DataRecord, IsFragmentFile}

-- the whole second of an instant, from which a file's onsets count
abbrev pub second_of : ℕ → ℕ
second_of instant = instant / 10 ^ 9 * 10 ^ 9

-- a record's block, its onsets counted from the file's start
abbrev pub block_of : ℕ → DataRecord → List ℕ
block_of file_start r = tals_text file_start r.start r.annotations

-- so many samples, two bytes each, hold a record's block: half of its bytes, rounded up
abbrev pub samples_of : ℕ → DataRecord → ℕ
samples_of file_start r = (length (block_of file_start r) + 1) / 2

-- the block, and then zeros up to `size` bytes
abbrev pub filled_block : ℕ → ℕ → DataRecord → List ℕ
filled_block file_start size r = block_of file_start r
    ++ replicate (size - length (block_of file_start r)) 0

-- a record: its ordinary samples, then its filled block
abbrev pub record_text : ℕ → ℕ → DataRecord → List ℕ
record_text file_start size r = r.samples ++ filled_block file_start size r

-- `samples` samples, two bytes each, hold the block of every record
abbrev pub BlocksFit : ℕ → ℕ → List DataRecord → Type 0
BlocksFit file_start samples records =
    All (λ r. length (block_of file_start r) ≤ 2 * samples) records

-- the bytes are laid out as the file of the records, which rise in time and of which `first` is the
-- earliest
pub record IsLaidOut (bytes : List ℕ) (k : Key) (first : DataRecord)
    (records : List DataRecord) : Type 0 where
  pub samples : ℕ
  pub header : List ℕ
  pub is_header : IsCanonicalHeader header k first.start (length records) samples
  pub holds : BlocksFit (second_of first.start) samples records
  pub least : (fewer : ℕ) → BlocksFit (second_of first.start) fewer records → samples ≤ fewer
  pub parts : bytes ≡ header ++ flat_map (record_text (second_of first.start) (2 * samples)) records

-- the canonical file of one record or more is their fragment file, and it is laid out so
abbrev pub IsCanonicalFile : List ℕ → Key → List DataRecord → Type 0
IsCanonicalFile bytes k [] = ⊥
IsCanonicalFile bytes k (r ∷ rs) = IsFragmentFile bytes k (r ∷ rs) × IsLaidOut bytes k r (r ∷ rs)
