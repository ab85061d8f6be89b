-- A call of a store returns an answer; some calls need a connection outside a transaction.
use Rattle.std.specs.Prelude.{◌≡◌, false, None, Result, Err, IsTrue, IfOk, IfErr, OnOk}
use Rattle.sqlite_trees.specs.declared.store.Store.{Ghosts}
use Rattle.sqlite.specs.State.{HasCleanDisk}
use Rattle.edf_store.specs.Fault.{MayRefuse}
use Rattle.edf_store.specs.Held.{StoreModel, at, KeepsHoldings}
use Rattle.edf_store.specs.declared.fault.StoreFault.{StoreFault}
use Rattle.edf_store.specs.declared.fault.StoreFault.TheVariants.{Store}

module _ {S : Type 0} (g : Ghosts S) where
  -- the connection is in a transaction, on any disk
  abbrev pub IsBusy : StoreModel S → Type 0
  IsBusy store = IsTrue (at g store).in_transaction

  -- the disk did not always return what was written
  abbrev pub IsUnclean : StoreModel S → Type 0
  IsUnclean store = ¬ HasCleanDisk (at g store)

  -- on a disk that returns what was written, a call that succeeds returns this
  abbrev pub AnswersWith : {X E : Type 0} → StoreModel S → Result X E → (X → Type 0) → Type 0
  AnswersWith new result P = HasCleanDisk (at g new) → IfOk result P

  -- no transaction is open after a call that succeeds
  abbrev pub EndsOutsideTransaction : {X E : Type 0} → StoreModel S → Result X E → Type 0
  EndsOutsideTransaction new result = HasCleanDisk (at g new) →
      OnOk result ((at g new).in_transaction ≡ false)

  -- Where the connection is in a transaction, the call is refused by E42 without a cause; elsewhere
  -- it never is so. It is refused by E45 only where `IfForeign` is true.
  pub record IsRefusedIfBusy {X : Type 0} (old : StoreModel S) (result : Result X StoreFault)
      (IfForeign : Type 0) : Type 0 where
    pub busy : IsBusy old → result ≡ Err (Store None)
    pub why : IfErr result (MayRefuse (IsBusy old) IfForeign ⊥)

  -- a call only reads: what is held stays, and no transaction is open after a call that succeeds
  pub record ReadsOutsideTransaction {X E : Type 0} (old new : StoreModel S)
      (result : Result X E) : Type 0 where
    pub stays : KeepsHoldings g old new
    pub idle : EndsOutsideTransaction new result
