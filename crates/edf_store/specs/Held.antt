-- A store has holdings.
use Rattle.std.specs.Prelude.{◌≡◌, ℕ, ◌≤◌, IsTrue, refl}
use Rattle.std.specs.Coded.{Coded, code_by, coded×, coded_ℕ}
use Rattle.sqlite_trees.specs.declared.store.Store.{Ghosts}
use Rattle.sqlite.specs.Held.{Held, held_code, state}
use Rattle.sqlite.specs.State.{State, HasCleanDisk, Survives}
use Rattle.edf_header.specs.declared.limits.TheConstants.{MOST_RECORDS}
use Rattle.edf_tables.specs.Schema.{HasBoth}
use Rattle.edf_tables.specs.Others.{KeepsTrees, KeepsOthers}
use Rattle.edf_holdings.specs.Holdings.{Holdings}
use Rattle.edf_rows.specs.Rows.{RepresentCommitted}

-- a store has a connection, and a cap on the data records of a recording
pub record StoreModel (S : Type 0) : Type 0 where
  pub connection : Held S
  pub cap : ℕ

abbrev pub store_model_code : {S : Type 0} → Coded S → Coded (StoreModel S)
store_model_code {S} store = code_by (Held S × ℕ) (coded× (held_code store) coded_ℕ)
    (λ k. (k.connection, k.cap)) (λ p. record { connection = p.0; cap = p.1 }) (λ _. refl)

-- the connection shows this state
abbrev pub at : {S : Type 0} → Ghosts S → StoreModel S → State
at g store = state g store.connection

-- what is committed represents these holdings
abbrev pub AreHeld : ℕ → State → Holdings → Type 0
AreHeld cap s h = HasCleanDisk s → IsTrue s.is_open → RepresentCommitted cap s.committed.trees h

-- these are the store's holdings
abbrev pub Holds : {S : Type 0} → Ghosts S → StoreModel S → Holdings → Type 0
Holds g store h = AreHeld store.cap (at g store) h

-- every store has the tables, and their rows represent holdings
pub record IsSoundStore (cap : ℕ) (s : State) : Type 0 where
  pub cap_from : 1 ≤ cap
  pub cap_to : cap ≤ MOST_RECORDS
  pub schema : HasCleanDisk s → IsTrue s.is_open → HasBoth s.committed.schema
  pub holdings : HasCleanDisk s → IsTrue s.is_open → (h : Holdings)
      × RepresentCommitted cap s.committed.trees h

-- what is committed beside our two tables is as it was, where the connection is still open after
-- the call; a crash after the call leaves that so too, or what a crash before it could leave
pub record KeepsOtherTables (old new : State) : Type 0 where
  pub was_open : HasCleanDisk new → IsTrue new.is_open → IsTrue old.is_open
  pub others : HasCleanDisk new → IsTrue new.is_open → KeepsOthers old.committed new.committed
  pub crash : Survives old new (λ rows. IsTrue old.is_open
      × KeepsTrees old.committed.schema old.committed.trees rows)

-- after a call the holdings, and what is beside them, are as they were; a crash after it leaves
-- nothing that a crash before it could not leave
pub record KeepsHoldings {S : Type 0} (g : Ghosts S) (old new : StoreModel S) : Type 0 where
  pub cap : new.cap ≡ old.cap
  pub holdings : (h : Holdings) → Holds g old h → Holds g new h
  pub others : KeepsOtherTables (at g old) (at g new)
  pub crash : Survives (at g old) (at g new) (λ _. ⊥)
