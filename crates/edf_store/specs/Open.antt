-- A store is opened over a connection, or is refused.
use Rattle.std.specs.Prelude.{◌≡◌, ℕ, false, IsTrue}
use Rattle.sqlite_trees.specs.declared.store.Store.{Ghosts}
use Rattle.sqlite.specs.Held.{Held, state}
use Rattle.sqlite.specs.State.{HasCleanDisk, Survives}
use Rattle.edf_holdings.specs.Holdings.{Holdings}
use Rattle.edf_tables.specs.Made.{IsOurs, HasTables, KeepsFile, IsMadeOf}
use Rattle.edf_rows.specs.Rows.{RepresentCommitted}
use Rattle.edf_rows.specs.File.{IsForeignFile}
use Rattle.edf_store.specs.Held.{StoreModel, at}
use Rattle.edf_store.specs.Fault.{HasCauseOrIsForeign}
use Rattle.edf_store.specs.declared.fault.StoreFault.{StoreFault}
use Rattle.edf_store.specs.declared.fault.StoreFault.TheVariants.{Foreign}

-- the store has the rows that were there, which represent holdings, and no transaction is open; a
-- crash may come after missing tables are made, and the rows are as they were
pub record IsOpened {S : Type 0} (g : Ghosts S) (conn : Held S)
    (store : StoreModel S) : Type 0 where
  pub is_open : HasCleanDisk (at g store) → IsTrue (at g store).is_open
  pub idle : HasCleanDisk (at g store) → (at g store).in_transaction ≡ false
  pub tables : HasCleanDisk (at g store) → HasTables (state g conn).now (at g store).committed
  pub holdings : HasCleanDisk (at g store) → (h : Holdings)
      × RepresentCommitted store.cap (at g store).committed.trees h
  pub own : HasCleanDisk (at g store) → ¬ IsForeignFile store.cap (state g conn).now
  pub crash : Survives (state g conn) (at g store) (IsMadeOf (state g conn).now)

-- The connection comes back as `end`. Where its disk is clean, its rows are as they were, whatever
-- the refusal is: E45, or one with a cause. E45 says that the file was foreign, and that tables of
-- ours are made where they were missing. A crash does the same as above.
pub record IsReturned {S : Type 0} (g : Ghosts S) (conn : Held S) (cap : ℕ)
    (fault : StoreFault) (end : Held S) : Type 0 where
  pub why : HasCauseOrIsForeign fault
  pub foreign : fault ≡ Foreign → HasCleanDisk (state g end) → IsForeignFile cap (state g conn).now
  pub tables : fault ≡ Foreign → IsOurs (state g conn).now → HasCleanDisk (state g end) →
      HasTables (state g conn).now (state g end).now
  pub stays : HasCleanDisk (state g end) → KeepsFile (state g conn) (state g end)
  pub crash : Survives (state g conn) (state g end) (IsMadeOf (state g conn).now)

-- the connection is dropped as one that could have come back
abbrev pub IsDropped : {S : Type 0} → Ghosts S → Held S → ℕ → StoreFault → Type 0
IsDropped {S} g conn cap fault = (end : Held S) × IsReturned g conn cap fault end

-- the disk is clean wherever the opening may get from here, as that of a store in memory always is
abbrev pub DiskStaysClean : {S : Type 0} → Ghosts S → Held S → Type 0
DiskStaysClean {S} g conn = (end : Held S) →
    Survives (state g conn) (state g end) (IsMadeOf (state g conn).now) → HasCleanDisk (state g end)
