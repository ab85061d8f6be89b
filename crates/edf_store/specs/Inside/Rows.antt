-- Functions that read and write rows require and ensure this.
use Rattle.std.specs.Prelude.{◌≡◌, ◌≢◌, ℕ, ℤ, Option, Result, OnOk, MatchResult}
use Rattle.sqlite_trees.specs.declared.store.Store.{Ghosts}
use Rattle.sqlite.specs.State.{HasCleanDisk}
use Rattle.edf_field.specs.Number.{duration_of}
use Rattle.edf_header.specs.Key.{Key}
use Rattle.edf_holdings.specs.Holdings.{Holdings}
use Rattle.edf_store.specs.Held.{StoreModel, at, Holds, KeepsHoldings}
use Rattle.edf_store.specs.Transaction.{Sees, SeesHoldings, SeesAsBefore, IsOf, AddsNoRecording}
use Rattle.edf_store.specs.Transaction.{EachHasRecord}
use Rattle.edf_store.specs.Walk.{HasYieldedIn, IsSomeWalk}
use Rattle.edf_store.specs.declared.cursor.Cursor.{Cursor}
use Rattle.edf_store.specs.declared.fault.RowFault.{RowFault}
use Rattle.edf_store.specs.declared.fault.RowFault.TheVariants.{Foreign}

module _ {S : Type 0} (g : Ghosts S) where
  -- on a disk that returns what was written, a call returns this, or a fault that isn't `Foreign`
  abbrev pub ReadsOurRows : {X : Type 0} → StoreModel S → Result X RowFault → (X → Type 0) → Type 0
  ReadsOurRows new result P = HasCleanDisk (at g new) → MatchResult result P (λ e. e ≢ Foreign)

  -- the transaction has a recording with this id
  pub record HasRecording (store : StoreModel S) (id : ℤ) : Type 0 where
    pub sees : SeesHoldings g store
    pub key : Key
    pub is_of : IsOf g store id key

  -- the transaction has a recording with this id, whose data records last so long
  pub record HasRecordingOf (store : StoreModel S) (id : ℤ) (duration : ℕ) : Type 0 where
    pub sees : SeesHoldings g store
    pub key : Key
    pub is_of : IsOf g store id key
    pub lasts : duration ≡ duration_of key.duration

  -- a call only reads: what is held stays, and the transaction sees what it saw
  pub record ReadsRows {X E : Type 0} (old new : StoreModel S) (result : Result X E) : Type 0 where
    pub stays : KeepsHoldings g old new
    pub same : OnOk result (SeesAsBefore g old new)
    pub only : OnOk result (AddsNoRecording g old new)

  -- what is held stays, and is what a transaction sees that begins
  pub record Begins {X E : Type 0} (old new : StoreModel S) (result : Result X E) : Type 0 where
    pub stays : KeepsHoldings g old new
    pub running : OnOk result (SeesHoldings g new)
    pub sees : OnOk result ((h : Holdings) → Holds g old h → Sees g new h)
    pub whole : OnOk result (EachHasRecord g new)

  -- this is `HasYielded` of the parts of a walk: its store, its recording and its cursor
  abbrev pub HasWalked : StoreModel S → Option ℤ → Cursor → Holdings → Key → ℕ → Type 0
  HasWalked store = HasYieldedIn store.cap (at g store)

  -- this is `IsWalking` of the same parts
  abbrev pub MayWalk : StoreModel S → Option ℤ → Cursor → Type 0
  MayWalk store = IsSomeWalk store.cap (at g store)
