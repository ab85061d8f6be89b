-- What the answer says of a file that is written, and of one that is not.
use Rattle.std.proofs.Common.{◌≡◌, ◌∙◌, ℕ, List, Option, Ok, Err, Result, subst}
use Rattle.std.specs.Prelude.{⊤}
use Rattle.sqlite_trees.specs.declared.store.Store.{Ghosts}
use Rattle.sqlite.specs.State.{State, HasCleanDisk}
use Rattle.edf_store.specs.Fault.{MayRefuse}
use Rattle.edf_store.specs.Held.{at, KeepsHoldings}
use Rattle.edf_store.specs.Walk.{IsWalkStep}
use Rattle.edf_store.specs.declared.cursor.Cursor.{Cursor}
use Rattle.edf_store.specs.declared.records.Records.{Records}
use Rattle.edf_store.specs.declared.fault.StoreFault.{StoreFault}
use Rattle.edf_store.specs.declared.fault.StoreFault.TheVariants.{Failed}
use Rattle.edf_store.proofs.Readiness.{stays_then}
use Rattle.edf_export.specs.Export.{ReportsWriteFailures}
use Rattle.edf_export.specs.Inside.Calls.{EndsWalk, WritesOnAnyDisk, IsWritingFaultOnAnyDisk}
use Rattle.edf_export.specs.declared.fault.ExportFault.{ExportFault}
use Rattle.edf_export.specs.declared.fault.ExportFault.TheVariants.{NoRecording, Store as Refused}
use Rattle.edf_export.specs.declared.fault.ExportFault.TheVariants.{Memory, Write}
use Rattle.edf_export.proofs.Walks.{refusal_why}

-- one more step of a walk
pub leaves_on : {S X : Type 0} (g : Ghosts S) (Left : State → Type 0) (a b c : Records S Cursor)
    (result : Result (Option X) StoreFault) → b.store.ghost_name ≡ a.store.ghost_name →
    KeepsHoldings g a.store.now b.store.now → IsWalkStep g b c result →
    (HasCleanDisk (at g c.store.now) → Left (at g c.store.now)) → EndsWalk g a c Left
leaves_on g Left a b c result same stays step left = record {
  same_reference = step.same_reference ∙ same;
  stays = stays_then g a.store.now b.store.now c.store.now stays step.stays;
  after = left;
}

-- the same where it is busy for another reason
pub counts_weaker : (Busy More : Type 0) (old new : ℕ) (fault : ExportFault) → (Busy → More) →
    IsWritingFaultOnAnyDisk Busy old new fault → IsWritingFaultOnAnyDisk More old new fault
counts_weaker Busy More old new (Refused fault) more counts =
    (counts.0, refusal_why Busy ⊤ ⊥ More fault counts.1 more (λ no. no))
counts_weaker Busy More old new fault more counts = counts

-- ---- what an export tells on any disk

module _ (before after : Option (List ℕ)) (old new : ℕ) (Busy : Type 0) where
  -- the refusal of the first walk, before which nothing went out
  pub refused_truly : (fault : StoreFault) → MayRefuse Busy ⊤ ⊥ fault → after ≡ before → new ≡ old →
      ReportsWriteFailures before after old new (Err (Refused fault))
  refused_truly fault is out count = record {
    counted = count;
    nothing = λ same. absurd (let e : ◌≡◌ {A = Result ℕ ExportFault} (Err (Refused fault))
        (Err NoRecording) = same in cc);
    unfailed = λ same.
        let failed : fault ≡ Failed = let e : ◌≡◌ {A = Result ℕ ExportFault} (Err (Refused fault))
        (Err (Refused Failed)) = same in cc in
        subst (MayRefuse Busy ⊤ ⊥) failed is;
  }

  -- what is counted while a file is written
  pub written_truly : (result : Result ℕ ExportFault) → WritesOnAnyDisk Busy old new result →
      ReportsWriteFailures before after old new result
  written_truly (Ok len) counts = record {
    counted = counts;
    nothing = λ same. absurd (let e : ◌≡◌ {A = Result ℕ ExportFault} (Ok len)
        (Err NoRecording) = same in cc);
    unfailed = λ same. let e : ◌≡◌ {A = Result ℕ ExportFault} (Ok len)
        (Err (Refused Failed)) = same in cc;
  }
  written_truly (Err NoRecording) counts = absurd counts
  written_truly (Err (Refused fault)) counts = record {
    counted = counts.0;
    nothing = λ same. absurd (let e : ◌≡◌ {A = Result ℕ ExportFault} (Err (Refused fault))
        (Err NoRecording) = same in cc);
    unfailed = λ same.
        let failed : fault ≡ Failed = let e : ◌≡◌ {A = Result ℕ ExportFault} (Err (Refused fault))
        (Err (Refused Failed)) = same in cc in
        subst (MayRefuse Busy ⊤ ⊥) failed counts.1;
  }
  written_truly (Err Memory) counts = record {
    counted = counts;
    nothing = λ same. absurd (let e : ◌≡◌ {A = Result ℕ ExportFault} (Err Memory)
        (Err NoRecording) = same in cc);
    unfailed = λ same. let e : ◌≡◌ {A = Result ℕ ExportFault} (Err Memory)
        (Err (Refused Failed)) = same in cc;
  }
  written_truly (Err Write) counts = record {
    counted = counts;
    nothing = λ same. absurd (let e : ◌≡◌ {A = Result ℕ ExportFault} (Err Write)
        (Err NoRecording) = same in cc);
    unfailed = λ same. let e : ◌≡◌ {A = Result ℕ ExportFault} (Err Write)
        (Err (Refused Failed)) = same in cc;
  }
