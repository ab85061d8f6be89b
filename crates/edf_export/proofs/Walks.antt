-- A walk over the records of a recording: the recording, and what a refusal is.
use Rattle.std.proofs.Common.{◌≡◌, ◌∙◌, ℕ, ℤ, ◌≤◌, List, length, sym, subst, arith, Option, Some}
use Rattle.std.proofs.Common.{None, Bool, true, false}
use Rattle.std.specs.Prelude.{⊤}
use Rattle.sqlite_trees.specs.declared.store.Store.{Ghosts}
use Rattle.sqlite.specs.State.{State, HasCleanDisk}
use Rattle.edf_header.specs.Key.{Key, MayStart}
use Rattle.edf_fragment.specs.Fragment.{DataRecord}
use Rattle.edf_fragment.specs.Sound.{IsSoundRecord, FirstMayStart}
use Rattle.edf_holdings.specs.Holdings.{Holdings, IsSound}
use Rattle.edf_holdings.proofs.Joining.{IsGood-from_sound}
use Rattle.edf_holdings.proofs.Sound.{Each-from_All}
use Rattle.edf_holdings.proofs.InSets.{are-sound-from}
use Rattle.edf_store.specs.Fault.{MayRefuse}
use Rattle.edf_store.specs.Held.{StoreModel, at, KeepsHoldings}
use Rattle.edf_store.specs.Walk.{IsCursorAfter}
use Rattle.edf_store.specs.declared.fault.StoreFault.{StoreFault}
use Rattle.edf_store.specs.declared.fault.StoreFault.TheVariants.{Memory, Store, Foreign, Failed}
use Rattle.edf_canonical.specs.Measure.{IsMeasured}
use Rattle.edf_canonical.specs.declared.measure.Measure.{Measure}
use Rattle.edf_export.specs.Export.{IsOutsideTransactionAfterFault}
use Rattle.edf_export.specs.Inside.Walks.{IsSoundRecording}
use Rattle.edf_export.specs.declared.fault.ExportFault.{ExportFault}
use Rattle.edf_export.specs.declared.fault.ExportFault.TheVariants.{NoRecording, Store as Refused}
use Rattle.edf_export.specs.declared.fault.ExportFault.TheVariants.{Memory as NoRoom, Write}
pub use Rattle.edf_store.proofs.Begun.{stays_same}

-- ---- refusals

-- no earlier fault, and busy for another reason
pub refusal_why : (IfBusy IfForeign IfFailed Busy : Type 0) (fault : StoreFault) →
    MayRefuse IfBusy IfForeign IfFailed fault → (IfBusy → Busy) → ¬ IfFailed →
    MayRefuse Busy ⊤ ⊥ fault
refusal_why IfBusy IfForeign IfFailed Busy Memory why busy unfailed = tt
refusal_why IfBusy IfForeign IfFailed Busy (Store None) why busy unfailed = busy why
refusal_why IfBusy IfForeign IfFailed Busy (Store (Some error)) why busy unfailed = tt
refusal_why IfBusy IfForeign IfFailed Busy Foreign why busy unfailed = tt
refusal_why IfBusy IfForeign IfFailed Busy Failed why busy unfailed = unfailed why

-- a walk that goes on has not failed
pub not_failed : (failed : Bool) → failed ≡ false → ¬ (failed ≡ true)
not_failed failed going fails = let e : ◌≡◌ {A = Bool} false true = sym going ∙ fails in cc

-- no refusal leaves a transaction open where none was
pub idle_after : (s : State) (fault : ExportFault) → s.in_transaction ≡ false →
    IsOutsideTransactionAfterFault s fault
idle_after s NoRecording idle = idle
idle_after s (Refused fault) idle = tt
idle_after s NoRoom idle = idle
idle_after s Write idle = idle

-- ---- recordings

-- the first start of a recording that may begin so
pub may_start : (k : Key) (records : List DataRecord) (m : Measure) → IsMeasured records m →
    FirstMayStart k records → MayStart k m.first
may_start k records m is begins =
    subst (MayStart k) (sym is.start) (subst (FirstMayStart k) is.parts begins)

-- the recording that a walk is in is sound
pub sound_recording : (cap : ℕ) (s : State) (recording : Option ℤ) (cursor : _) (h : Holdings)
    (k : Key) (n : ℕ) → IsCursorAfter cap s recording cursor h k n
    → IsSoundRecording cap k (h k)
sound_recording cap s recording cursor h k n it =
    let sound : IsSound cap h = it.committed.sound in
    record {
      key = it.key;
      sound = are-sound-from k 0 (h k) ((IsGood-from_sound cap h sound).apart k)
          (Each-from_All (IsSoundRecord k) (h k) (sound.records k));
      begins = sound.begins k;
      within_cap = sound.within_cap k;
    }

-- it has no more than the store may hold of one
pub few_records : (cap : ℕ) (s : State) (recording : Option ℤ) (cursor : _) (h : Holdings)
    (k : Key) (n : ℕ) → IsCursorAfter cap s recording cursor h k n → length (h k) ≤ cap
few_records cap s recording cursor h k n it =
    (sound_recording cap s recording cursor h k n it).within_cap

-- ---- the store

-- what was clean
pub clean_before : {S : Type 0} (g : Ghosts S) (old new : StoreModel S) → KeepsHoldings g old new →
    HasCleanDisk (at g new) → HasCleanDisk (at g old)
clean_before g old new s clean = omega (arith, s.crash.clean, clean)
