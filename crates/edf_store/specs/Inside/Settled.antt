-- Outside a transaction the tables are what is held.
use Rattle.std.specs.Prelude.{◌≡◌, ℕ, ℤ, false, [], Option, MatchOption, IsTrue, Result, OnOk}
use Rattle.sqlite_trees.specs.declared.store.Store.{Ghosts}
use Rattle.sqlite.specs.State.{State, HasCleanDisk}
use Rattle.edf_header.specs.Key.{Key}
use Rattle.edf_holdings.specs.Holdings.{Holdings}
use Rattle.edf_tables.specs.Schema.{HasBoth}
use Rattle.edf_rows.specs.Rows.{HasRecordingRow, RepresentCommitted}
use Rattle.edf_store.specs.Held.{StoreModel, at, KeepsHoldings}

-- no transaction is open, and the tables are what is held
pub record IsSettled (cap : ℕ) (s : State) : Type 0 where
  pub is_open : IsTrue s.is_open
  pub idle : s.in_transaction ≡ false
  pub settled : s.now ≡ s.committed
  pub schema : HasBoth s.now.schema
  pub holdings : (h : Holdings) × RepresentCommitted cap s.now.trees h

abbrev pub IsAtRest : {S : Type 0} → Ghosts S → StoreModel S → Type 0
IsAtRest g store = HasCleanDisk (at g store) → IsSettled store.cap (at g store)

-- what is held stays, and is what the tables are after a call that succeeds
pub record Settles {S X E : Type 0} (g : Ghosts S) (old new : StoreModel S)
    (result : Result X E) : Type 0 where
  pub stays : KeepsHoldings g old new
  pub settled : HasCleanDisk (at g new) → OnOk result (IsSettled new.cap (at g new))

-- the key's recording has this id, or the key has no records
abbrev pub IsSelectedIn : State → Key → Holdings → Option ℤ → Type 0
IsSelectedIn s k h id = MatchOption id (h k ≡ []) (λ id. HasRecordingRow s.now.trees id k)
