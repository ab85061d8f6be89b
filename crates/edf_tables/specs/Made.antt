-- CREATE TABLE IF NOT EXISTS makes those of the two tables that are missing.
use Rattle.std.specs.Prelude.{◌≡◌, ◌⊎◌, [], false, IsTrue}
use Rattle.sqlite.specs.Tree.{Trees}
use Rattle.sqlite.specs.Schema.{Schema}
use Rattle.sqlite.specs.Effect.{Database, IsDatabase}
use Rattle.edf_tables.specs.Columns.{stored_recordings, stored_records}
use Rattle.sqlite.specs.State.{State}
use Rattle.edf_tables.specs.Schema.{no_schema, one_schema, both_schema, HasBoth, AreOurs}

-- the database is empty, has the first table alone, or has both and perhaps others after them
abbrev pub IsOurs : Database → Type 0
IsOurs db = AreOurs db.schema

-- `recording` is there alone, with the rows that it had
pub data HasFirst (old new : Database) : Type 0 where
  made_first : old.schema ≡ no_schema → new.schema ≡ one_schema → stored_recordings new.trees ≡ [] →
      HasFirst old new
  had_first : old.schema ≡ one_schema → new ≡ old → HasFirst old new

-- both tables are there, with the rows that they had, and what comes after them
pub data HasTables (old new : Database) : Type 0 where
  from_none : old.schema ≡ no_schema → new.schema ≡ both_schema → stored_recordings new.trees ≡ [] →
      stored_records new.trees ≡ [] → HasTables old new
  from_one : old.schema ≡ one_schema → new.schema ≡ both_schema →
      stored_recordings new.trees ≡ stored_recordings old.trees → stored_records new.trees ≡ [] →
      HasTables old new
  from_both : HasBoth old.schema → new ≡ old → HasTables old new

-- the file is as it was, or missing tables are made, the first or both; its rows are the same
abbrev pub KeepsTables : Database → Database → Type 0
KeepsTables old new = (new ≡ old) ⊎ (HasFirst old new ⊎ HasTables old new)

-- This holds while the connection is open, whatever was returned. What is committed is as it was,
-- or outside a transaction has missing tables made. What is shown is so too, or is what is
-- committed and the transaction is over. No transaction has begun.
pub record KeepsFile (old new : State) : Type 0 where
  pub was_open : IsTrue new.is_open → IsTrue old.is_open
  pub committed : IsTrue new.is_open → (new.committed ≡ old.committed)
      ⊎ ((old.in_transaction ≡ false) × KeepsTables old.now new.committed)
  pub shown : IsTrue new.is_open → KeepsTables old.now new.now
      ⊎ ((new.now ≡ new.committed) × (new.in_transaction ≡ false))
  pub mode : IsTrue new.in_transaction → IsTrue old.in_transaction

-- a database of this schema can have these trees
abbrev pub AreOf : Schema → Trees → Type 0
AreOf schema db = IsDatabase (record { schema = schema; trees = db })

-- a crash may come after the first missing table is made, or after both are; the rows are the same
pub data IsMadeOf (old : Database) (db : Trees) : Type 0 where
  crash_after_first : old.schema ≡ no_schema → AreOf one_schema db → stored_recordings db ≡ [] →
      IsMadeOf old db
  crash_after_both : old.schema ≡ no_schema → AreOf both_schema db → stored_recordings db ≡ [] →
      stored_records db ≡ [] → IsMadeOf old db
  crash_after_second : old.schema ≡ one_schema → AreOf both_schema db →
      stored_recordings db ≡ stored_recordings old.trees → stored_records db ≡ [] → IsMadeOf old db
