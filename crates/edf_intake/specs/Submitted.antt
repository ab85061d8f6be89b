-- One submission: its answer, and the store after it. Each case says what the input parses to and
-- what the answer is, then what is held after the call, and last the rows that a crash may leave.
use Rattle.std.specs.Prelude.{◌≡◌, ◌⊎◌, false, List, None, Ok, Err, IsTrue}
use Rattle.sqlite_trees.specs.declared.store.Store.{Ghosts}
use Rattle.sqlite_trees.specs.Tree.{Trees}
use Rattle.sqlite.specs.State.{HasCleanDisk, Survives}
use Rattle.edf_header.specs.Key.{Key}
use Rattle.edf_fragment.specs.Fragment.{DataRecord}
use Rattle.edf_fragment.specs.Parsed.{Parsed, Fragment, Fault}
use Rattle.edf_holdings.specs.Holdings.{Holdings}
use Rattle.edf_holdings.specs.Reply.{Reply, Form, Conflicts, Accepted, reply, after_one}
use Rattle.edf_rows.specs.Rows.{RepresentCommitted}
use Rattle.edf_store.specs.Held.{StoreModel, at, Holds, KeepsOtherTables, KeepsHoldings}
use Rattle.edf_store.specs.Fault.{MayRefuse}
use Rattle.edf_store.specs.Call.{IsBusy, IsUnclean}
use Rattle.edf_store.specs.declared.fault.StoreFault.{StoreFault}
use Rattle.edf_store.specs.declared.fault.StoreFault.TheVariants as store
use Rattle.edf_intake.specs.Refusal.{Answer, IsMemoryOrStoreRefusal, IsInDoubt, cause}
use Rattle.edf_intake.specs.Refusal.{Cause, OfForm, OfConflict, OfRead, OfMemory, OfStore}
use Rattle.edf_fragment.specs.Call.{InputState}
use Rattle.edf_intake.specs.Input.{ReadsAs, ReadsWhole, FailsToRead, ReadsUntilInterrupted}
use Rattle.edf_intake.specs.declared.answer.Receipt.{Receipt}
use Rattle.edf_intake.specs.declared.answer.Refusal.TheVariants as refusal

-- The store may refuse so, with E42 or E45: `sqlite` gave an error; or the connection was in a
-- transaction, only where `IfBusy` holds; or rows are foreign, only where the disk did not return
-- what was written. Where memory ran out, the refusal is E41 and not this one.
abbrev pub StoreMayRefuse : {S : Type 0} → Ghosts S → (IfBusy : Type 0) → StoreModel S →
    StoreFault → Type 0
StoreMayRefuse g IfBusy new store.Memory = ⊥
StoreMayRefuse g IfBusy new fault = MayRefuse IfBusy (IsUnclean g new) ⊥ fault

module _ {S : Type 0} (g : Ghosts S) (old new : StoreModel S) where
  -- whatever was held, this is the reply to the submission
  abbrev pub RepliesWith : Parsed → Reply → Type 0
  RepliesWith submission answer = HasCleanDisk (at g new) → (h : Holdings) → Holds g old h →
      reply old.cap h submission ≡ answer

  -- the rows after a crash represent what is held after the submission
  abbrev pub RemainAfterCrash : Parsed → Trees → Type 0
  RemainAfterCrash submission rows = (h : Holdings) → Holds g old h →
      RepresentCommitted old.cap rows (after_one old.cap h submission)

  -- the submission is committed: it is held, and other tables are unchanged; on a clean disk the
  -- store is open; the rows after a crash are what they could be before, or those after it
  pub record CommitsSubmission (submission : Parsed) : Type 0 where
    pub cap : new.cap ≡ old.cap
    pub holdings : (h : Holdings) → Holds g old h → Holds g new (after_one old.cap h submission)
    pub others : KeepsOtherTables (at g old) (at g new)
    pub is_open : HasCleanDisk (at g new) → IsTrue (at g new).is_open
    pub crash : Survives (at g old) (at g new) (RemainAfterCrash submission)

  -- holdings and other tables are unchanged; yet after a crash the store may hold the submission
  pub record MayHaveCommitted (submission : Parsed) : Type 0 where
    pub cap : new.cap ≡ old.cap
    pub holdings : (h : Holdings) → Holds g old h → Holds g new h
    pub others : KeepsOtherTables (at g old) (at g new)
    pub crash : Survives (at g old) (at g new) (RemainAfterCrash submission)

  module _ (from to : InputState) where
    -- the whole input is a fragment, and is accepted with this receipt
    pub record Accepts (receipt : Receipt) : Type 0 where
      pub records : List DataRecord
      pub read : ReadsWhole from to receipt.identity records
      pub reply_is : RepliesWith (Fragment receipt.identity records)
          (Accepted receipt.identity receipt.new receipt.known)
      pub commits : CommitsSubmission (Fragment receipt.identity records)

    -- the input parses to this, and is refused with this reply; the holdings are unchanged
    pub record Refuses (submission : Parsed) (answer : Reply) : Type 0 where
      pub read : ReadsAs from to submission
      pub reply_is : RepliesWith submission answer
      pub stays : KeepsHoldings g old new

    abbrev pub RefusesFragment : Reply → Type 0
    RefusesFragment answer = (key : Key) × (records : List DataRecord)
        × Refuses (Fragment key records) answer

    -- a read failed; what is held is unchanged, and so are the rows after a crash
    pub record IsReadFailure : Type 0 where
      pub read : FailsToRead from to
      pub stays : KeepsHoldings g old new

    -- memory ran out or the store refused; what is held is unchanged. Only after E41 or E42, and if
    -- the whole input was read and is a fragment, may it be committed after a crash
    abbrev pub IsInterrupted : Answer → Type 0
    IsInterrupted answer = (KeepsHoldings g old new × ReadsUntilInterrupted from to)
        ⊎ (IsInDoubt answer × ((key : Key) × (records : List DataRecord)
        × ReadsWhole from to key records × MayHaveCommitted (Fragment key records)))

    -- each cause of a refusal says how the input was read, and what the store holds then
    abbrev pub IsRefusedFor : Cause → Type 0
    IsRefusedFor (OfForm fault) = Refuses (Fault fault) (Form fault)  -- of form
    IsRefusedFor (OfConflict conflict) = RefusesFragment (Conflicts conflict)  -- from E30 on
    IsRefusedFor OfRead = IsReadFailure  -- E40
    IsRefusedFor OfMemory = IsInterrupted (Err refusal.Memory)  -- E41
    -- E42, E45
    IsRefusedFor (OfStore fault) = IsInterrupted (Err (refusal.Store fault))
        × StoreMayRefuse g (IsBusy g old) new fault

    -- each answer says how the input was read, and what the store holds then
    abbrev pub IsSubmitAnswer : Answer → Type 0
    IsSubmitAnswer (Ok receipt) = Accepts receipt
    IsSubmitAnswer (Err refused) = IsRefusedFor (cause refused)

-- no transaction is open after it, except where memory ran out or the store refused
abbrev pub IsOutsideTransactionAfterSubmit : {S : Type 0} → Ghosts S → StoreModel S → Answer →
    Type 0
IsOutsideTransactionAfterSubmit g new answer = HasCleanDisk (at g new) →
    IsMemoryOrStoreRefusal answer ⊎ ((at g new).in_transaction ≡ false)

-- the answer if the connection was in a transaction before the call: E42 without a cause
abbrev pub busy_answer : Answer
busy_answer = Err (refusal.Store (store.Store None))
