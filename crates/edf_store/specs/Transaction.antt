-- A transaction sees holdings, and adds to them.
use Rattle.std.specs.Prelude.{◌≡◌, ◌≢◌, ◌⊎◌, ℕ, ℤ, Bool, ◌+◌, ◌<◌, ◌≤◌, nat_le, List, [], ◌∷◌}
use Rattle.std.specs.Prelude.{length, map, All, Contains, Option, Some, None, IsTrue}
use Rattle.sqlite_trees.specs.declared.store.Store.{Ghosts}
use Rattle.sqlite_trees.specs.Tree.{Trees}
use Rattle.sqlite.specs.State.{State, HasCleanDisk}
use Rattle.edf_field.specs.Number.{duration_of}
use Rattle.edf_header.specs.Key.{Key, IsKey, MayStart}
use Rattle.edf_fragment.specs.Fragment.{DataRecord}
use Rattle.edf_holdings.specs.Clash.{overlapping}
use Rattle.edf_fragment.specs.Sound.{IsSoundRecord}
use Rattle.edf_holdings.specs.Holdings.{Holdings, IsSound, with_records}
use Rattle.edf_tables.specs.Row.{IsInside}
use Rattle.edf_tables.specs.Others.{KeepsOthers}
use Rattle.edf_rows.specs.Rows.{HasRecordingRow, Represent, RepresentCommitted}
use Rattle.edf_store.specs.Held.{StoreModel, at}

-- a transaction is open, and its rows represent these sound holdings; what is beside them is as it
-- was at the last commit
pub record IsTransactionOf (cap : ℕ) (s : State) (h : Holdings) : Type 0 where
  pub is_open : IsTrue s.is_open
  pub inside : IsInside s
  pub stand : Represent s.now.trees h
  pub sound : IsSound cap h
  pub others : KeepsOthers s.committed s.now

abbrev pub AreSeen : ℕ → State → Holdings → Type 0
AreSeen cap s h = HasCleanDisk s → IsTransactionOf cap s h

abbrev pub SeesSome : ℕ → State → Type 0
SeesSome cap s = HasCleanDisk s → (h : Holdings) × IsTransactionOf cap s h

-- the key's recording is there with this id
pub record HasRowId (s : State) (id : ℤ) (k : Key) : Type 0 where
  pub key : IsKey k
  pub there : HasCleanDisk s → HasRecordingRow s.now.trees id k

-- what was seen is seen, and the recordings are there with the ids that they had
pub record StillSees (cap : ℕ) (old new : State) : Type 0 where
  pub running : SeesSome cap new
  pub holdings : (h : Holdings) → AreSeen cap old h → AreSeen cap new h
  pub ids : (id : ℤ) (k : Key) → HasRowId old id k → HasRowId new id k

-- no recording is added
abbrev pub AddsNoRecordingIn : State → State → Type 0
AddsNoRecordingIn old new = HasCleanDisk new → (id : ℤ) (k : Key) →
    HasRecordingRow new.now.trees id k → HasRecordingRow old.now.trees id k

-- no recording but this one is added
abbrev pub AddsOnlyRecordingIn : Key → State → State → Type 0
AddsOnlyRecordingIn made old new = HasCleanDisk new → (id : ℤ) (k : Key) →
    HasRecordingRow new.now.trees id k → HasRecordingRow old.now.trees id k ⊎ (k ≡ made)

-- these are the recording's records whose intervals overlap the one that begins at the start
abbrev pub AreNearIn : ℕ → State → ℤ → ℕ → List DataRecord → Type 0
AreNearIn cap s id start records = (h : Holdings) (k : Key) → AreSeen cap s h → HasRowId s id k →
    records ≡ overlapping (duration_of k.duration) start (h k)

-- this is the earliest start of the records that is `from` or later, or None where there is none
abbrev pub IsNextStart : ℕ → List DataRecord → Option ℕ → Type 0
IsNextStart from records None = All (λ r. r.start < from) records
IsNextStart from records (Some start) = (from ≤ start) × Contains (map (λ r. r.start) records) start
    × All (λ r. r.start < from ⊎ start ≤ r.start) records

-- this is the earliest such start of the recording's records
abbrev pub IsNextStartIn : ℕ → State → ℤ → ℕ → Option ℕ → Type 0
IsNextStartIn cap s id from answer = (h : Holdings) (k : Key) → AreSeen cap s h → HasRowId s id k →
    IsNextStart from (h k) answer

-- the recording has `count` records
abbrev pub IsCountIn : ℕ → State → ℤ → ℕ → Type 0
IsCountIn cap s id count = (h : Holdings) (k : Key) → AreSeen cap s h → HasRowId s id k →
    count ≡ length (h k)

-- the answer is true where the recording has at most the cap with `more` records more
abbrev pub IsCapacityAnswerIn : ℕ → State → ℤ → ℕ → Bool → Type 0
IsCapacityAnswerIn cap s id more answer = (h : Holdings) (k : Key) → AreSeen cap s h →
    HasRowId s id k → answer ≡ nat_le (length (h k) + more) cap

-- the record can be added: none overlaps it, there are fewer than the cap, and a recording that has
-- none may start with it (one that has some has a date or began before 2085, as sound holdings do)
pub record CanAdd (cap : ℕ) (k : Key) (r : DataRecord) (h : Holdings) : Type 0 where
  pub none_near : overlapping (duration_of k.duration) r.start (h k) ≡ []
  pub below_cap : length (h k) < cap
  pub first : h k ≡ [] → MayStart k r.start

-- the record is a sound one of the recording's key, and can be added to it
pub record MayAddIn (cap : ℕ) (s : State) (id : ℤ) (r : DataRecord) : Type 0 where
  pub key : Key
  pub is_under : HasRowId s id key
  pub sound : IsSoundRecord key r
  pub spare : HasCleanDisk s → (h : Holdings) → AreSeen cap s h → CanAdd cap key r h

-- the recording has the record beside those that it had, and all else is as it was
pub record IsAddedIn (cap : ℕ) (old new : State) (id : ℤ) (r : DataRecord) : Type 0 where
  pub running : SeesSome cap new
  pub holdings : (h : Holdings) (k : Key) → AreSeen cap old h → HasRowId old id k →
      AreSeen cap new (with_records k (r ∷ []) h)
  pub ids : (id : ℤ) (k : Key) → HasRowId old id k → HasRowId new id k
  pub only : AddsNoRecordingIn old new

-- the key's recording has this id, and no other is added
pub record IsSelectedOrInsertedIn (cap : ℕ) (old new : State) (k : Key) (id : ℤ) : Type 0 where
  pub has_row_id : HasRowId new id k
  pub same : StillSees cap old new
  pub only : AddsOnlyRecordingIn k old new

-- each recording has a record
abbrev pub EachHasRecordIn : ℕ → State → Type 0
EachHasRecordIn cap s = HasCleanDisk s → (h : Holdings) (id : ℤ) (k : Key) → AreSeen cap s h →
    HasRowId s id k → h k ≢ []

-- a commit would make these rows what is held
abbrev pub AreSeenRows : ℕ → State → Trees → Type 0
AreSeenRows cap s db = (h : Holdings) → AreSeen cap s h → RepresentCommitted cap db h

module _ {S : Type 0} (g : Ghosts S) where
  -- the transaction sees these holdings
  abbrev pub Sees : StoreModel S → Holdings → Type 0
  Sees store h = AreSeen store.cap (at g store) h

  -- the transaction sees some, as it does from its start until a call is refused
  abbrev pub SeesHoldings : StoreModel S → Type 0
  SeesHoldings store = SeesSome store.cap (at g store)

  -- the transaction has the key's recording with this id
  abbrev pub IsOf : StoreModel S → ℤ → Key → Type 0
  IsOf store id k = HasRowId (at g store) id k

  abbrev pub SeesAsBefore : StoreModel S → StoreModel S → Type 0
  SeesAsBefore old new = StillSees new.cap (at g old) (at g new)

  abbrev pub AddsNoRecording : StoreModel S → StoreModel S → Type 0
  AddsNoRecording old new = AddsNoRecordingIn (at g old) (at g new)

  abbrev pub AddsOnlyRecording : Key → StoreModel S → StoreModel S → Type 0
  AddsOnlyRecording made old new = AddsOnlyRecordingIn made (at g old) (at g new)

  abbrev pub AreNear : StoreModel S → ℤ → ℕ → List DataRecord → Type 0
  AreNear store = AreNearIn store.cap (at g store)

  abbrev pub IsNextStartOf : StoreModel S → ℤ → ℕ → Option ℕ → Type 0
  IsNextStartOf store = IsNextStartIn store.cap (at g store)

  abbrev pub IsCountOf : StoreModel S → ℤ → ℕ → Type 0
  IsCountOf store = IsCountIn store.cap (at g store)

  abbrev pub IsCapacityAnswer : StoreModel S → ℤ → ℕ → Bool → Type 0
  IsCapacityAnswer store = IsCapacityAnswerIn store.cap (at g store)

  abbrev pub MayAddTo : StoreModel S → ℤ → DataRecord → Type 0
  MayAddTo store = MayAddIn store.cap (at g store)

  abbrev pub IsAdded : StoreModel S → StoreModel S → ℤ → DataRecord → Type 0
  IsAdded old new = IsAddedIn new.cap (at g old) (at g new)

  abbrev pub IsSelectedOrInserted : StoreModel S → StoreModel S → Key → ℤ → Type 0
  IsSelectedOrInserted old new = IsSelectedOrInsertedIn new.cap (at g old) (at g new)

  abbrev pub EachHasRecord : StoreModel S → Type 0
  EachHasRecord store = EachHasRecordIn store.cap (at g store)

  abbrev pub IsSeen : StoreModel S → Trees → Type 0
  IsSeen store = AreSeenRows store.cap (at g store)
