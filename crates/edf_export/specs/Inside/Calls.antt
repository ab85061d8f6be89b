-- The store after a call of this crate, and the faults that a call may have on any disk.
use Rattle.std.specs.Prelude.{◌≡◌, ℕ, ⊤, Result, MatchResult}
use Rattle.sqlite_trees.specs.declared.store.Store.{Ghosts}
use Rattle.sqlite.specs.State.{State, HasCleanDisk}
use Rattle.edf_fragment.specs.Failures.{saturating_increment}
use Rattle.edf_store.specs.Fault.{MayRefuse}
use Rattle.edf_store.specs.Held.{at, KeepsHoldings}
use Rattle.edf_store.specs.declared.cursor.Cursor.{Cursor}
use Rattle.edf_store.specs.declared.records.Records.{Records}
use Rattle.edf_export.specs.declared.fault.ExportFault.{ExportFault}
use Rattle.edf_export.specs.declared.fault.ExportFault.TheVariants.{NoRecording, Store, Memory}
use Rattle.edf_export.specs.declared.fault.ExportFault.TheVariants.{Write}

-- the walk still borrows its store, whose holdings are unchanged; on a clean disk `After` is true
pub record EndsWalk {S : Type 0} (g : Ghosts S) (old new : Records S Cursor)
    (After : State → Type 0) : Type 0 where
  pub same_reference : new.store.ghost_name ≡ old.store.ghost_name
  pub stays : KeepsHoldings g old.store.now new.store.now
  pub after : HasCleanDisk (at g new.store.now) → After (at g new.store.now)

-- Why a file is not written to its end, and the count of failed writes: a read was refused, because
-- of an open transaction only where `IfBusy` holds; or memory ran out; or a write failed, and only
-- that counts. `NoRecording` is never the fault.
abbrev pub IsWritingFaultOnAnyDisk : (IfBusy : Type 0) → ℕ → ℕ → ExportFault → Type 0
IsWritingFaultOnAnyDisk IfBusy old new NoRecording = ⊥
IsWritingFaultOnAnyDisk IfBusy old new (Store fault) = (new ≡ old) × MayRefuse IfBusy ⊤ ⊥ fault
IsWritingFaultOnAnyDisk IfBusy old new Memory = new ≡ old
IsWritingFaultOnAnyDisk IfBusy old new Write = new ≡ saturating_increment old

abbrev pub WritesOnAnyDisk : {A : Type 0} → (IfBusy : Type 0) → ℕ → ℕ → Result A ExportFault →
    Type 0
WritesOnAnyDisk IfBusy old new result =
    MatchResult result (λ _. new ≡ old) (IsWritingFaultOnAnyDisk IfBusy old new)
