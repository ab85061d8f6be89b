-- A database may have more than our two tables.
use Rattle.std.specs.Prelude.{◌≡◌, ◌≢◌, ℕ, List, map, drop}
use Rattle.sqlite.specs.Order.{Row}
use Rattle.sqlite.specs.Tree.{Trees}
use Rattle.sqlite.specs.Schema.{Schema}
use Rattle.sqlite.specs.Effect.{Database}
use Rattle.sqlite_rules.specs.Edit.{IsNoIndex}
use Rattle.edf_tables.specs.Schema.{recording, records}

-- lists the rows of each table that comes after our two
abbrev pub other_rows : Database → List (List Row)
other_rows db = map (λ t. db.trees t.tree) (drop 2 db.schema.tables)

-- each tree is as it was but for those of our two tables and of indexes: so are the rows of every
-- other table, also of one that SQLite's port doesn't parse, and the list of tables, indexes, views
-- and triggers with their texts
abbrev pub KeepsTrees : Schema → Trees → Trees → Type 0
KeepsTrees schema old new = (tree : ℕ) → tree ≢ recording.tree → tree ≢ records.tree →
    IsNoIndex schema tree → new tree ≡ old tree

-- what is beside our two tables is as it was
pub record KeepsOthers (old new : Database) : Type 0 where
  pub schema : new.schema ≡ old.schema
  pub rows : other_rows new ≡ other_rows old
  pub trees : KeepsTrees old.schema old.trees new.trees
