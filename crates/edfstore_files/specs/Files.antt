-- What the two files of a store, the log and the database file, hold.
use Rattle.std.specs.Prelude.{◌≡◌, ◌⊎◌, ℕ, []}
use Rattle.sqlite_wal.specs.Recovery.{Image}
use Rattle.sqlite.specs.Tree.{Trees}
use Rattle.sqlite.specs.Schema.{Schema}
use Rattle.sqlite.specs.Effect.{Database, IsDatabase}
use Rattle.sqlite.specs.Files.{HoldsDatabase, IsNothing, AreFoundIn}
use Rattle.edf_tables.specs.Columns.{stored_recordings}
use Rattle.edf_tables.specs.Schema.{no_schema, one_schema, HasBoth}
use Rattle.edf_holdings.specs.Holdings.{Holdings, nothing_held}
use Rattle.edf_rows.specs.Rows.{RepresentCommitted}

-- the database holds these: it has no table at all, or only our first, without a row, and nothing
-- is held; or it has both, whose rows represent them
pub data DatabaseHolds (cap : ℕ) (db : Database) (h : Holdings) : Type 0 where
  no_table : db.schema ≡ no_schema → h ≡ nothing_held → DatabaseHolds cap db h
  one_table : db.schema ≡ one_schema → stored_recordings db.trees ≡ [] → h ≡ nothing_held →
      DatabaseHolds cap db h
  both_tables : HasBoth db.schema → RepresentCommitted cap db.trees h → DatabaseHolds cap db h

-- the trees are those of such a database
pub record TreesHold (cap : ℕ) (trees : Trees) (h : Holdings) : Type 0 where
  pub schema : Schema
  pub is_database : IsDatabase (record { schema = schema; trees = trees })
  pub holds : DatabaseHolds cap (record { schema = schema; trees = trees }) h

-- the files, as bytes, hold these: there is no database yet and nothing is held; or there is one
-- that holds them
abbrev pub FilesHold : ℕ → Image → Holdings → Type 0
FilesHold cap image h = (IsNothing image × (h ≡ nothing_held))
    ⊎ ((db : Trees) × ∥ HoldsDatabase image db ∥₁ × TreesHold cap db h)

-- the files are read as this database: what they recover to, and the one that they hold where they
-- hold one; or there is none yet, and it is empty
pub record AreReadAs (image : Image) (db : Database) : Type 0 where
  pub is_database : IsDatabase db
  pub recovered : AreFoundIn image db.trees
  pub only : (held : Trees) → HoldsDatabase image held → db.trees ≡ held
