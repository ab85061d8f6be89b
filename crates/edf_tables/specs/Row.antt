-- A statement adds a row to one of the two tables.
use Rattle.std.specs.Prelude.{◌≡◌, ℕ, ℤ, false, true, List, [], ◌∷◌, IsTrue}
use Rattle.sqlite.specs.declared.types.Value.TheVariants.{Null, Int, Blob}
use Rattle.sqlite.specs.Order.{Row}
use Rattle.sqlite_trees.specs.Tree.{put_row}
use Rattle.sqlite_rules.specs.Edit.{next_rowid, is_taken}
use Rattle.sqlite.specs.State.{State, Shows}
use Rattle.edf_tables.specs.Columns.{stored_recordings, stored_records}
use Rattle.edf_tables.specs.Schema.{HasBoth}
use Rattle.edf_tables.specs.Others.{KeepsOthers}

-- a new row has the next rowid and these cells
abbrev pub new_row : List Row → Row → Row
new_row rows cells = Int (next_rowid rows) ∷ cells

abbrev pub added : List Row → Row → List Row
added rows cells = put_row (new_row rows cells) rows

-- a record's cells are bound in the order of the columns
abbrev pub cells : ℤ → ℤ → List ℕ → List ℕ → Row
cells recording start samples block = Int recording ∷ Int start ∷ Blob samples ∷ Blob block ∷ []

-- a recording's cells are bound so, since its id is the rowid
abbrev pub named_cells : List ℕ → Row
named_cells identity = Null ∷ Blob identity ∷ []

-- the tables are there, and a transaction is open
pub record IsInside (s : State) : Type 0 where
  pub schema : HasBoth s.now.schema
  pub mode : IsTrue s.in_transaction

-- in the transaction there is one record more, and all else is as it was
pub record HasRecord (old new : State) (cells : Row) : Type 0 where
  pub schema : HasBoth new.now.schema
  pub others : KeepsOthers old.now new.now
  pub recordings : stored_recordings new.now.trees ≡ stored_recordings old.now.trees
  pub records : stored_records new.now.trees ≡ added (stored_records old.now.trees) cells
  pub fresh : is_taken (stored_records old.now.trees)
      (new_row (stored_records old.now.trees) cells) ≡ false
  pub shown : Shows old new new.now old.committed true

-- in the transaction there is one recording more, and all else is as it was
pub record HasRecording (old new : State) (cells : Row) : Type 0 where
  pub schema : HasBoth new.now.schema
  pub others : KeepsOthers old.now new.now
  pub recordings : stored_recordings new.now.trees ≡ added (stored_recordings old.now.trees) cells
  pub fresh : is_taken (stored_recordings old.now.trees)
      (new_row (stored_recordings old.now.trees) cells) ≡ false
  pub records : stored_records new.now.trees ≡ stored_records old.now.trees
  pub shown : Shows old new new.now old.committed true
