-- Fragments: a header and its data records.
use Rattle.std.specs.Prelude.{◌≡◌, ℕ, ◌+◌, ◌-◌, ◌≤◌, List, [], ◌∷◌, ◌++◌, length, map, drop}
use Rattle.edf_field.specs.Number.{field, duration_of}
use Rattle.edf_header.specs.Key.{Key}
use Rattle.edf_header.specs.Header.{HeaderRecord, IsHeader, Layout, layout_of, least_records}
use Rattle.edf_header.specs.Header.{most_records}
use Rattle.edf_header.specs.declared.header.Block.{Block}
use Rattle.edf_header.specs.declared.limits.TheConstants.{MOST_BLOCK_BYTES}
use Rattle.edf_tal.specs.Tal.{Annotation}
use Rattle.edf_tal.specs.Block.{BlocksParseTo, IsWithinLimits}
use Rattle.edf_tal.specs.declared.place.Place.{Place}
use Rattle.edf_tal.specs.declared.place.Place.TheVariants.{First, After}

-- a data record: its start in nanoseconds, ordinary sample bytes in signal order, and annotations
pub record DataRecord : Type 0 where
  pub start : ℕ
  pub samples : List ℕ
  pub annotations : List Annotation

-- the limits of a data record
pub record IsRecordWithinLimits (r : DataRecord) : Type 0 where
  pub samples : length r.samples ≤ MOST_BLOCK_BYTES
  pub annotations : IsWithinLimits r.annotations

-- the annotations blocks of a data record's bytes, in file order
abbrev pub blocks : Layout → List ℕ → List (List ℕ)
blocks l bytes = map (λ b. field bytes b.at b.bytes) l.blocks

-- from `from` on, the bytes outside of the blocks, which lie apart in file order
abbrev pub bytes_outside : ℕ → List Block → List ℕ → List ℕ
bytes_outside from [] bytes = drop from bytes
bytes_outside from (b ∷ bs) bytes = field bytes from (b.at - from)
    ++ bytes_outside (b.at + b.bytes) bs bytes

-- the bytes of the ordinary signals
abbrev pub ordinary_bytes : Layout → List ℕ → List ℕ
ordinary_bytes l bytes = bytes_outside 0 l.blocks bytes

-- the bytes are the data record, which is at this place
pub record IsDataRecord (l : Layout) (place : Place) (bytes : List ℕ) (r : DataRecord) : Type 0
  where
    pub len : length bytes ≡ l.record_bytes
    pub read : BlocksParseTo (blocks l bytes) l.start place r.start r.annotations
    pub samples_are : r.samples ≡ ordinary_bytes l bytes

-- the place of the record after one that starts there
abbrev pub place_after : Layout → ℕ → Place
place_after l start = After start (duration_of l.key.duration)

-- the bytes begin with these data records, the first at `place`; the next one would be at
-- `next_place`, and `rest` follows
abbrev pub BeginWithDataRecords : Layout → Place → List ℕ → List DataRecord → Place → List ℕ →
    Type 0
BeginWithDataRecords l place bytes [] next_place rest = (next_place ≡ place) × (rest ≡ bytes)
BeginWithDataRecords l place bytes (r ∷ rs) next_place rest =
    (prefix : List ℕ) × (suffix : List ℕ) × (bytes ≡ prefix ++ suffix)
    × IsDataRecord l place prefix r
    × BeginWithDataRecords l (place_after l r.start) suffix rs next_place rest

-- the bytes are the file of a key and of data records: as many as the header says, or, where its
-- count is -1, 1 to the most that a file has; and nothing follows them
pub record IsFragmentFile (bytes : List ℕ) (k : Key) (records : List DataRecord) : Type 0 where
  pub header : HeaderRecord
  pub rest : List ℕ
  pub next_place : Place
  pub is_header : IsHeader bytes header rest
  pub key : k ≡ (layout_of header).key
  pub are_records : BeginWithDataRecords (layout_of header) First rest records next_place []
  pub least : least_records (layout_of header).count ≤ length records
  pub most : length records ≤ most_records (layout_of header).count
