-- The rows of the two tables represent holdings.
use Rattle.std.specs.Prelude.{◌≡◌, ◌≢◌, ℕ, ℤ, List, [], ◌∷◌, map, All, Contains, IsTrue}
use Rattle.std.specs.Prelude.{IsPermutation}
use Rattle.sqlite_value.specs.Order.{Row}
use Rattle.sqlite_trees.specs.Tree.{Trees}
use Rattle.edf_header.specs.Key.{Key, IsKey}
use Rattle.edf_tal.specs.Block.{BlockParsesTo}
use Rattle.edf_tal.specs.declared.place.Place.TheVariants.{Any}
use Rattle.edf_holdings.specs.Holdings.{Holdings, IsSound}
use Rattle.edf_rows.specs.Cells.{record_cells, recording_cells, recordings_in, records_in}
use Rattle.edf_tables.specs.Columns.{the_id, the_identity, stored_records, is_of}
use Rattle.edf_fragment.specs.Fragment.{DataRecord, IsRecordWithinLimits}
use Rattle.edf_fragment.specs.Sound.{IsSoundRecord}

-- the key's recording has a row with this id
pub record HasRecordingRow (trees : Trees) (id : ℤ) (k : Key) : Type 0 where
  pub row : Contains (recordings_in trees) (recording_cells id k)
  pub key : IsKey k

-- the row is a recording's: an id and the bytes of a key
pub record IsRecordingRow (row : Row) : Type 0 where
  pub id : ℤ
  pub key : Key
  pub cells : row ≡ recording_cells id key
  pub is_key : IsKey key

-- the record belongs to a recording that is there
pub record BelongsToRecording (trees : Trees) (row : Row) : Type 0 where
  pub id : ℤ
  pub key : Key
  pub there : HasRecordingRow trees id key
  pub owned : IsTrue (is_of id row)

-- a and b are two members of the list
abbrev pub AreTwoOf : List Row → Row → Row → Type 0
AreTwoOf rows a b = (rest : List Row) × IsPermutation rows (a ∷ b ∷ rest)

-- the rows have different ids and different identities
pub record DifferInIdAndKey (a b : Row) : Type 0 where
  pub id : the_id a ≢ the_id b
  pub identity : the_identity a ≢ the_identity b

-- Each row of a recording is an id and the bytes of a key, and no id and no key occurs twice. Each
-- record belongs to a recording, and a recording's records by rising starts are what its key has. A
-- key without a recording has none, and a recording may have none inside a transaction.
pub record Represent (trees : Trees) (h : Holdings) : Type 0 where
  pub recordings : All IsRecordingRow (recordings_in trees)
  pub apart : (a b : Row) → AreTwoOf (recordings_in trees) a b → DifferInIdAndKey a b
  pub owned : All (BelongsToRecording trees) (stored_records trees)
  pub held : (id : ℤ) (k : Key) → HasRecordingRow trees id k →
      records_in trees id ≡ map record_cells (h k)
  pub others : (k : Key) → ((id : ℤ) → ¬ HasRecordingRow trees id k) → h k ≡ []

-- committed rows represent sound holdings, and each recording has a record
pub record RepresentCommitted (cap : ℕ) (trees : Trees) (h : Holdings) : Type 0 where
  pub stand : Represent trees h
  pub sound : IsSound cap h
  pub each : (id : ℤ) (k : Key) → HasRecordingRow trees id k → records_in trees id ≢ []

-- the row has the cells of this data record, which is a sound one of the key
pub record IsRowOf (k : Key) (r : DataRecord) (row : Row) : Type 0 where
  pub cells : row ≡ record_cells r
  pub sound : IsSoundRecord k r

-- the data record has these samples, the start and the annotations that the block parses to, and a
-- data record's size; the block needn't be the one that is written for it
pub record IsRecordFrom (samples block : List ℕ) (r : DataRecord) : Type 0 where
  pub samples_are : r.samples ≡ samples
  pub read : BlockParsesTo block 0 Any r.start r.annotations
  pub size : IsRecordWithinLimits r

-- no data record has these samples and this block
abbrev pub IsNoRecord : List ℕ → List ℕ → Type 0
IsNoRecord samples block = (r : DataRecord) → ¬ IsRecordFrom samples block r
