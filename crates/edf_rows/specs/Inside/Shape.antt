-- A row has a canonical block or not, and a recording has sound records.
use Rattle.std.specs.Prelude.{◌≡◌, ◌≢◌, ℕ, ◌≤◌, ℤ, List, [], map, length}
use Rattle.sqlite_trees.specs.Tree.{Trees}
use Rattle.sqlite_value.specs.Order.{Row}
use Rattle.edf_header.specs.Key.{Key, IsKey}
use Rattle.edf_tal.specs.Tal.{Annotation}
use Rattle.edf_tal.specs.Block.{BlockParsesTo}
use Rattle.edf_tal.specs.declared.place.Place.TheVariants.{Any}
use Rattle.edf_tal.specs.Canonical.{tals_text}
use Rattle.edf_fragment.specs.Fragment.{DataRecord}
use Rattle.edf_fragment.specs.Sound.{AreSoundFrom, FirstMayStart}
use Rattle.edf_rows.specs.Cells.{record_cells, recording_cells, records_in}

-- the block parses to nothing, whichever place it has in a file
abbrev pub IsNoBlock : List ℕ → Type 0
IsNoBlock block = (start : ℕ) (list : List Annotation) → ¬ BlockParsesTo block 0 Any start list

-- the block parses to this start and list, and is the one that is written for them
pub record OwnBlock (block : List ℕ) (start : ℕ) (list : List Annotation) : Type 0 where
  pub read : BlockParsesTo block 0 Any start list
  pub written : block ≡ tals_text 0 start list

-- the block is not the one that is written for what it parses to
abbrev pub NoOwnBlock : List ℕ → Type 0
NoOwnBlock block = (start : ℕ) (list : List Annotation) → ¬ OwnBlock block start list

-- the row is a recording's, which has one to `cap` sound records, a duration apart, and may begin
-- with the first
pub record HasRecords (cap : ℕ) (trees : Trees) (row : Row) : Type 0 where
  pub id : ℤ
  pub key : Key
  pub records : List DataRecord
  pub cells : row ≡ recording_cells id key
  pub is_key : IsKey key
  pub sound : AreSoundFrom key 0 records
  pub begins : FirstMayStart key records
  pub shown : records_in trees id ≡ map record_cells records
  pub some : records_in trees id ≢ []
  pub within_cap : length records ≤ cap
