-- The transaction of a submission, before and after a part of it.
use Rattle.std.specs.Prelude.{◌≡◌, ℤ, Result, OnOk}
use Rattle.sqlite_trees.specs.declared.store.Store.{Ghosts}
use Rattle.edf_header.specs.Key.{Key}
use Rattle.edf_store.specs.Held.{KeepsHoldings}
use Rattle.edf_store.specs.Transaction.{IsOf}
use Rattle.edf_store.specs.StoreTx.{IsRunning}
use Rattle.edf_store.specs.declared.transaction.StoreTx.{StoreTx}

module _ {S : Type 0} (g : Ghosts S) where
  -- the transaction is running, and the key's recording is there under this id
  pub record IsRunningFor (tx : StoreTx S) (id : ℤ) (key : Key) : Type 0 where
    pub running : IsRunning g tx
    pub recording : IsOf g tx.store.now id key

  -- after a part that may add records, the transaction is one of the same store, whose holdings are
  -- unchanged; and if the part did not fail, the transaction is running
  pub record KeepsRunning {X E : Type 0} (old new : StoreTx S) (result : Result X E) : Type 0 where
    pub same_reference : new.store.ghost_name ≡ old.store.ghost_name
    pub stays : KeepsHoldings g old.store.now new.store.now
    pub running : OnOk result (IsRunning g new)
