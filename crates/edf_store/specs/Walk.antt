-- A walk yields the records of a recording, one after another.
use Rattle.std.specs.Prelude.{◌≡◌, ℕ, ◌+◌, ◌≤◌, ℤ, pos, Bool, false, List, length, map, take, drop}
use Rattle.std.specs.Prelude.{filter, slice_get, Option, Some, None, IsTrue, MatchOption, true}
use Rattle.std.specs.Prelude.{Result, Ok, Err, IfOk, IfErr, OnOk, OnErr}
use Rattle.std.specs.Ordering.{int_cmp, is_gt}
use Rattle.sqlite_trees.specs.declared.store.Store.{Ghosts}
use Rattle.sqlite.specs.State.{State, HasCleanDisk}
use Rattle.edf_header.specs.Key.{Key, IsKey}
use Rattle.edf_fragment.specs.Fragment.{DataRecord}
use Rattle.edf_holdings.specs.Holdings.{Holdings}
use Rattle.edf_tables.specs.Schema.{HasBoth}
use Rattle.edf_tables.specs.Cells.{cells_of}
use Rattle.edf_rows.specs.Cells.{record_cells}
use Rattle.edf_rows.specs.Rows.{HasRecordingRow, RepresentCommitted}
use Rattle.edf_store.specs.Fault.{MayRefuse}
use Rattle.edf_store.specs.Held.{StoreModel, at, Holds, KeepsHoldings}
use Rattle.edf_store.specs.Call.{IsUnclean}
use Rattle.edf_store.specs.declared.cursor.Cursor.{Cursor}
use Rattle.edf_store.specs.declared.fault.StoreFault.{StoreFault}
use Rattle.edf_store.specs.declared.fault.StoreFault.TheVariants.{Failed}
use Rattle.edf_store.specs.declared.records.Records.{Records}

abbrev pub starts_later : ℤ → DataRecord → Bool
starts_later after r = is_gt (int_cmp (pos r.start) after)

-- No transaction is open, and the recording is the key's in these holdings. The first n of its
-- records were yielded; those that start after `cursor.start`, which is -1 before the first, come
-- next, and the rows that were read ahead show the first of them. Without a recording none comes.
pub record IsCursorAfter (cap : ℕ) (s : State) (recording : Option ℤ) (cursor : Cursor)
    (h : Holdings) (k : Key) (n : ℕ) : Type 0 where
  pub is_open : IsTrue s.is_open
  pub idle : s.in_transaction ≡ false
  pub settled : s.now ≡ s.committed
  pub schema : HasBoth s.now.schema
  pub committed : RepresentCommitted cap s.now.trees h
  pub key : IsKey k
  pub recording_is : MatchOption recording (n ≡ length (h k))
      (λ id. HasRecordingRow s.now.trees id k)
  pub within : n ≤ length (h k)
  pub some : 1 ≤ cursor.limit
  pub later : filter (starts_later cursor.start) (h k) ≡ drop n (h k)
  pub ahead : map cells_of cursor.rows.items ≡ map record_cells
      (take (length cursor.rows.items) (drop n (h k)))

-- the cursor is so on a disk that returns what was written
abbrev pub HasYieldedIn : ℕ → State → Option ℤ → Cursor → Holdings → Key → ℕ → Type 0
HasYieldedIn cap s recording cursor h k n = HasCleanDisk s →
    IsCursorAfter cap s recording cursor h k n

-- the walk has yielded the first records of some key
abbrev pub IsSomeWalk : ℕ → State → Option ℤ → Cursor → Type 0
IsSomeWalk cap s recording cursor = HasCleanDisk s → (h : Holdings) × (k : Key) × (n : ℕ)
    × IsCursorAfter cap s recording cursor h k n

-- a step returns the record at this place of the list, or None at the end of it
abbrev pub IsNextRecord : List DataRecord → ℕ → Option DataRecord → Type 0
IsNextRecord records n (Some r) = slice_get records n ≡ Some r
IsNextRecord records n None = n ≡ length records

-- counts the records that are yielded after that answer
abbrev pub count_after : {X : Type 0} → ℕ → Option X → ℕ
count_after n (Some x) = n + 1
count_after n None = n

module _ {S : Type 0} (g : Ghosts S) where
  -- the walk has yielded the first n records of the key, and yields the others next
  abbrev pub HasYielded : Records S Cursor → Holdings → Key → ℕ → Type 0
  HasYielded walk = HasYieldedIn walk.store.now.cap (at g walk.store.now) walk.recording walk.cursor

  -- the walk has yielded the first records of some key that is held
  abbrev pub IsWalking : Records S Cursor → Type 0
  IsWalking walk = IsSomeWalk walk.store.now.cap (at g walk.store.now) walk.recording walk.cursor

  -- the walk begins, over what is held of the key
  pub record IsWalkBegun (store : StoreModel S) (k : Key) (walk : Records S Cursor) : Type 0 where
    pub stays : KeepsHoldings g store walk.store.now
    pub going : walk.failed ≡ false
    pub walking : IsWalking walk
    pub at_first : (h : Holdings) → Holds g store h → HasYielded walk h k 0

  -- After a step what is held stays, and the walk goes on, is over or has failed. Once over it is
  -- over. It refuses as foreign where the disk did not return what was written, and by `Failed`
  -- where it had a fault before, and only then.
  pub record IsWalkStep {X : Type 0} (old new : Records S Cursor)
      (result : Result (Option X) StoreFault) : Type 0 where
    pub same_reference : new.store.ghost_name ≡ old.store.ghost_name
    pub stays : KeepsHoldings g old.store.now new.store.now
    pub going : OnOk result (new.failed ≡ false)
    pub walking : OnOk result (IsWalking new)
    pub ends : IfOk result (λ o. o ≡ None → new.recording ≡ None)
    pub ended : old.failed ≡ false → old.recording ≡ None →
        (result ≡ Ok None) × (new.recording ≡ None)
    pub fails : OnErr result (new.failed ≡ true)
    pub failed : old.failed ≡ true → result ≡ Err Failed
    pub why : IfErr result (MayRefuse ⊥ (IsUnclean g new.store.now) (old.failed ≡ true))
