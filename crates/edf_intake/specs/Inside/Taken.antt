-- A fragment that was read inside a transaction which is still open.
use Rattle.std.specs.Prelude.{◌≡◌, ℕ, ◌≤◌, List, Option, None}
use Rattle.sqlite_trees.specs.declared.store.Store.{Ghosts}
use Rattle.sqlite.specs.State.{HasCleanDisk}
use Rattle.edf_header.specs.Key.{Key}
use Rattle.edf_header.specs.Header.{Layout}
use Rattle.edf_fragment.specs.Fragment.{DataRecord}
use Rattle.edf_fragment.specs.Parsed.{Fragment}
use Rattle.edf_fragment.specs.Reading.{ReadsHeader, initial_progress}
use Rattle.edf_fragment.specs.Whole.{ReadsFragment}
use Rattle.edf_fragment.specs.declared.advance.Progress.{Progress}
use Rattle.edf_holdings.specs.Holdings.{Holdings, with_records}
use Rattle.edf_holdings.specs.Reply.{Reply, Conflicts, Accepted, reply, after_one}
use Rattle.edf_store.specs.Held.{at}
use Rattle.edf_store.specs.Transaction.{Sees, IsOf, AddsNoRecording, AddsOnlyRecording}
use Rattle.edf_store.specs.Transaction.{EachHasRecord}
use Rattle.edf_store.specs.StoreTx.{HasCauseOrIsUnclean}
use Rattle.edf_store.specs.declared.transaction.StoreTx.{StoreTx}
use Rattle.edf_fragment.specs.Call.{InputState}
use Rattle.edf_intake.specs.Input.{ReadsWhole, ReadsFault, FailsToRead, ReadsHeaderAndRecords}
use Rattle.edf_intake.specs.Input.{RunsOutOfMemory}
use Rattle.edf_intake.specs.Inside.Verdict.{IsSpareInTransaction, AreFindings}
use Rattle.edf_intake.specs.declared.answer.Receipt.{Receipt}
use Rattle.edf_intake.specs.declared.answer.Refusal.{Refusal}
use Rattle.edf_intake.specs.Refusal.{Cause, OfForm, OfConflict, OfRead, OfMemory, OfStore, cause}
use Rattle.edf_intake.specs.declared.answer.Stop.{Stop}
use Rattle.edf_intake.specs.declared.answer.Stop.TheVariants.{Input, Store}
use Rattle.edf_intake.specs.declared.data_records.Destination.{Destination}
use Rattle.edf_intake.specs.declared.data_records.Findings.{Findings}

-- the cause is a conflict
abbrev pub IsOfConflict : Cause → Type 0
IsOfConflict (OfConflict conflict) = Unit {0}
IsOfConflict other = ⊥

abbrev pub IsConflict : Refusal → Type 0
IsConflict refused = IsOfConflict (cause refused)

-- nothing clashes, and no more than `spare` are new
abbrev pub MayBeAccepted : ℕ → Findings → Type 0
MayBeAccepted spare findings = (findings.clash ≡ None) × (findings.new ≤ spare)

-- a header was just read, and no data record yet
pub record HasReadHeader (remaining : Option (List ℕ)) (layout : Layout)
    (progress : Progress) : Type 0 where
  pub before : Option (List ℕ)
  pub header : ReadsHeader before remaining layout
  pub none_read : progress ≡ initial_progress

module _ {S : Type 0} (g : Ghosts S) (old new : StoreTx S) where
  -- the key's recording was there or was added, and no other was added; what is seen is unchanged,
  -- and the recording may get `asked` more, or all that the cap allows
  pub record IsDestination (key : Key) (asked : ℕ) (destination : Destination) : Type 0 where
    pub recording : IsOf g new.store.now destination.id.row key
    pub same : (h : Holdings) → Sees g old.store.now h → Sees g new.store.now h
    pub only : AddsOnlyRecording g key old.store.now new.store.now
    pub spare : IsSpareInTransaction g new key asked destination.spare

  -- all data records up to the end of the input were read, no read failed, and these are the
  -- findings; the new ones were added, if the fragment may be accepted
  pub record RecordsAreTaken (layout : Layout) (spare : ℕ) (from to : InputState)
      (findings : Findings) : Type 0 where
    pub only : AddsNoRecording g old.store.now new.store.now
    pub counted : to.failed ≡ from.failed
    pub records : List DataRecord
    pub read : (before : Option (List ℕ)) → ReadsHeader before from.remaining layout →
        ReadsFragment before to.remaining layout records
    pub findings_are : HasCleanDisk (at g new.store.now) → (h : Holdings) → Sees g old.store.now h →
        AreFindings layout.key h records findings
        × (MayBeAccepted spare findings → Sees g new.store.now (with_records layout.key records h))

  module _ (from to : InputState) where
    -- the fragment is accepted; the transaction sees what is held after it, and may be committed
    pub record IsAcceptedInTransaction (receipt : Receipt) : Type 0 where
      pub records : List DataRecord
      pub read : ReadsWhole from to receipt.identity records
      pub reply_is : HasCleanDisk (at g new.store.now) → (h : Holdings) → Sees g old.store.now h →
          reply old.store.now.cap h (Fragment receipt.identity records)
          ≡ Accepted receipt.identity receipt.new receipt.known
      pub sees : (h : Holdings) → Sees g old.store.now h → Sees g new.store.now
          (after_one old.store.now.cap h (Fragment receipt.identity records))
      pub whole : EachHasRecord g new.store.now

    -- the fragment is refused with this reply
    pub record IsConflictInTransaction (answer : Reply) : Type 0 where
      pub key : Key
      pub records : List DataRecord
      pub read : ReadsWhole from to key records
      pub reply_is : HasCleanDisk (at g new.store.now) → (h : Holdings) → Sees g old.store.now h →
          reply old.store.now.cap h (Fragment key records) ≡ answer

    -- the input is refused for this cause
    abbrev pub StopsFor : Cause → Type 0
    StopsFor (OfForm fault) = ReadsFault from to fault
    StopsFor (OfConflict conflict) = IsConflictInTransaction (Conflicts conflict)
    StopsFor OfRead = FailsToRead from to
    StopsFor OfMemory = RunsOutOfMemory from to
    StopsFor (OfStore fault) = ⊥

    -- nothing is to be committed, for this reason
    abbrev pub StopsWith : Stop → Type 0
    StopsWith (Input refused) = StopsFor (cause refused)
    StopsWith (Store fault) = ReadsHeaderAndRecords from to × HasCauseOrIsUnclean g new fault
