-- A transaction begins, runs until a call is refused, and is committed or rolled back.
use Rattle.std.specs.Prelude.{◌≡◌, false, Result, IsTrue, IfErr, OnOk, OnErr}
use Rattle.sqlite_trees.specs.declared.store.Store.{Ghosts}
use Rattle.sqlite.specs.State.{HasCleanDisk, Survives}
use Rattle.edf_holdings.specs.Holdings.{Holdings}
use Rattle.edf_store.specs.Fault.{HasCause, MayRefuse}
use Rattle.edf_store.specs.Held.{StoreModel, at, Holds, KeepsOtherTables, KeepsHoldings}
use Rattle.edf_store.specs.Call.{EndsOutsideTransaction, IsUnclean}
use Rattle.edf_store.specs.Transaction.{Sees, SeesHoldings, SeesAsBefore, AddsNoRecording}
use Rattle.edf_store.specs.Transaction.{EachHasRecord, IsSeen}
use Rattle.edf_store.specs.declared.fault.StoreFault.{StoreFault}
use Rattle.edf_store.specs.declared.transaction.StoreTx.{StoreTx}

module _ {S : Type 0} (g : Ghosts S) where
  -- the transaction sees some holdings; no clause says so any more once a call was refused
  abbrev pub IsRunning : StoreTx S → Type 0
  IsRunning tx = SeesHoldings g tx.store.now

  -- the transaction begins: what is held stays, and is what it sees
  pub record IsBegun (store : StoreModel S) (tx : StoreTx S) : Type 0 where
    pub stays : KeepsHoldings g store tx.store.now
    pub running : IsRunning tx
    pub sees : (h : Holdings) → Holds g store h → Sees g tx.store.now h
    pub whole : EachHasRecord g tx.store.now

  -- a call is refused with a cause, or as foreign where the disk did not return what was written
  abbrev pub HasCauseOrIsUnclean : StoreTx S → StoreFault → Type 0
  HasCauseOrIsUnclean tx = MayRefuse ⊥ (IsUnclean g tx.store.now) ⊥

  -- after each call what is held stays; after one that succeeds the transaction is running
  pub record KeepsTransaction {X : Type 0} (old new : StoreTx S)
      (result : Result X StoreFault) : Type 0 where
    pub same_reference : new.store.ghost_name ≡ old.store.ghost_name
    pub stays : KeepsHoldings g old.store.now new.store.now
    pub running : OnOk result (IsRunning new)
    pub why : IfErr result HasCause

  -- after a call that only reads the transaction sees what it saw, too
  pub record ReadsInTransaction {X : Type 0} (old new : StoreTx S) (result : Result X StoreFault)
      (Why : StoreFault → Type 0) : Type 0 where
    pub same_reference : new.store.ghost_name ≡ old.store.ghost_name
    pub stays : KeepsHoldings g old.store.now new.store.now
    pub running : OnOk result (IsRunning new)
    pub same : OnOk result (SeesAsBefore g old.store.now new.store.now)
    pub only : OnOk result (AddsNoRecording g old.store.now new.store.now)
    pub why : IfErr result Why

  -- what the transaction saw is held, or where the commit is refused what was held; the transaction
  -- is over, and after a crash what was held is held, or all that it saw
  pub record Commits {X E : Type 0} (old new : StoreModel S) (result : Result X E) : Type 0 where
    pub cap : new.cap ≡ old.cap
    pub committed : OnOk result ((h : Holdings) → Sees g old h → Holds g new h)
    pub refused : OnErr result ((h : Holdings) → Holds g old h → Holds g new h)
    pub others : KeepsOtherTables (at g old) (at g new)
    pub survives : Survives (at g old) (at g new) (IsSeen g old)
    pub ended : HasCleanDisk (at g new) → (at g new).in_transaction ≡ false
    pub is_open : HasCleanDisk (at g new) → OnOk result (IsTrue (at g new).is_open)

  -- what was held before the transaction stays, and nothing that it added; where the call succeeds,
  -- no transaction is open
  pub record RollsBack {X E : Type 0} (old new : StoreModel S) (result : Result X E) : Type 0 where
    pub stays : KeepsHoldings g old new
    pub ended : EndsOutsideTransaction g new result
