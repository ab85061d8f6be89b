-- A statement changes the connection that it runs on. All is said of disks that return what was
-- written.
use Rattle.std.specs.Prelude.{Result, IfOk, OnOk, OnErr}
use Rattle.sqlite_trees.specs.declared.store.Store.{Ghosts}
use Rattle.sqlite_trees.specs.Tree.{Trees}
use Rattle.sqlite.specs.Held.{Held, state}
use Rattle.sqlite.specs.State.{State, HasCleanDisk, Survives, KeepsCommit, IsUnchanged}
use Rattle.edf_tables.specs.Schema.{HasBoth}

-- both tables are there
abbrev pub HasBothTables : State → Type 0
HasBothTables s = HasBoth s.now.schema

module _ {S : Type 0} (g : Ghosts S) where
  -- the connection shows these rows in each table
  abbrev pub tables : Held S → Trees
  tables conn = (state g conn).now.trees

  -- this is true of what the connection shows
  abbrev pub IfClean : Held S → (State → Type 0) → Type 0
  IfClean conn P = HasCleanDisk (state g conn) → P (state g conn)

  -- a call that succeeds returns this
  abbrev pub Gives : {X E : Type 0} → Held S → Result X E → (X → Type 0) → Type 0
  Gives new result P = HasCleanDisk (state g new) → IfOk result P

  -- a call that succeeds changes what the connection shows so
  abbrev pub ChangesOnOk : {X E : Type 0} → Held S → Held S → Result X E →
      (State → State → Type 0) → Type 0
  ChangesOnOk old new result P = HasCleanDisk (state g new) →
      OnOk result (P (state g old) (state g new))

  -- a call that fails changes what the connection shows so
  abbrev pub ChangesOnErr : {X E : Type 0} → Held S → Held S → Result X E →
      (State → State → Type 0) → Type 0
  ChangesOnErr old new result P = HasCleanDisk (state g new) →
      OnErr result (P (state g old) (state g new))

  -- a call that succeeds changes nothing
  abbrev pub OnlyReads : {X E : Type 0} → Held S → Held S → Result X E → Type 0
  OnlyReads old new result = ChangesOnOk old new result IsUnchanged

  -- what is committed stays
  abbrev pub KeepsCommitted : Held S → Held S → Type 0
  KeepsCommitted old new = HasCleanDisk (state g new) → KeepsCommit (state g old) (state g new)

  -- what is committed stays where the call fails
  abbrev pub KeepsCommittedOnErr : {X E : Type 0} → Held S → Held S → Result X E → Type 0
  KeepsCommittedOnErr old new result = ChangesOnErr old new result KeepsCommit

  -- a crash after the call leaves nothing that a crash before it could not leave
  abbrev pub IsCrashSafe : Held S → Held S → Type 0
  IsCrashSafe old new = Survives (state g old) (state g new) (λ _. ⊥)
