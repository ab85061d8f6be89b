-- A file is foreign where submissions can't make it; the audit of a file says so.
use Rattle.std.specs.Prelude.{◌≡◌, ◌≢◌, ℕ, [], Bool, true, false, IsTrue}
use Rattle.sqlite.specs.Effect.{Database}
use Rattle.sqlite.specs.State.{State}
use Rattle.edf_holdings.specs.Holdings.{Holdings}
use Rattle.edf_tables.specs.Columns.{stored_recordings}
use Rattle.edf_tables.specs.Schema.{one_schema, HasBoth}
use Rattle.edf_tables.specs.Made.{IsOurs, HasTables}
use Rattle.edf_rows.specs.Rows.{RepresentCommitted}
use Rattle.edf_rows.specs.Foreign.{IsForeign}

-- a file is refused: its schema is not ours; submissions under the cap can't make its rows; or it
-- has a recording, and no table of records
pub data IsForeignFile (cap : ℕ) (db : Database) : Type 0 where
  other_schema : ¬ IsOurs db → IsForeignFile cap db
  foreign_rows : HasBoth db.schema → IsForeign cap db.trees → IsForeignFile cap db
  only_recordings : db.schema ≡ one_schema → stored_recordings db.trees ≢ [] → IsForeignFile cap db

-- tables that the file lacked are made; the rows that it had are there, and represent holdings; no
-- transaction is open
pub record PassesAudit (cap : ℕ) (old new : State) : Type 0 where
  pub is_open : IsTrue new.is_open
  pub tables : HasTables old.now new.now
  pub settled : new.committed ≡ new.now
  pub idle : new.in_transaction ≡ false
  pub holdings : (h : Holdings) × RepresentCommitted cap new.now.trees h
  pub own : ¬ IsForeignFile cap old.now

-- the audit returns true where the file passes, and false where it is foreign
abbrev pub Audits : ℕ → State → State → Bool → Type 0
Audits cap old new true = PassesAudit cap old new
Audits cap old new false = IsForeignFile cap old.now
