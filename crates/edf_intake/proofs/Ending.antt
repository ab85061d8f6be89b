-- How a submission ends: what the calls of its transaction left, one after another.
use Rattle.std.proofs.Common.{◌≡◌, ℕ, List, Some, None, Ok, Err, sym, subst, ◌∙◌, inl, inr, arith}
use Rattle.std.specs.Result.{IsErrAnd}
use Rattle.sqlite_trees.specs.declared.store.Store.{Ghosts}
use Rattle.sqlite.specs.State.{HasCleanDisk, Survives}
use Rattle.sqlite.proofs.StateLemmas.{survives_weaker}
use Rattle.edf_header.specs.Key.{Key}
use Rattle.edf_fragment.specs.Fragment.{DataRecord}
use Rattle.edf_fragment.specs.Parsed.{Parsed, Fragment, Fault}
use Rattle.edf_holdings.specs.Holdings.{Holdings}
use Rattle.edf_holdings.specs.Reply.{Reply, reply, after_one}
use Rattle.edf_rows.specs.Rows.{RepresentCommitted}
use Rattle.edf_tables.proofs.Commits.{quiet_then}
use Rattle.edf_store.specs.Held.{StoreModel, at, Holds, KeepsHoldings}
use Rattle.edf_store.proofs.Held.{others_committed_then}
use Rattle.edf_store.specs.Fault.{MayRefuse, HasCause}
use Rattle.edf_store.specs.Call.{IsBusy, IsUnclean}
use Rattle.edf_store.specs.Transaction.{Sees, IsSeen}
use Rattle.edf_store.specs.StoreTx.{IsBegun, Commits}
use Rattle.edf_store.specs.declared.fault.StoreFault.{StoreFault}
use Rattle.edf_store.specs.declared.fault.StoreFault.TheVariants.{Memory, Store, Foreign, Failed}
use Rattle.edf_store.specs.declared.transaction.StoreTx.{StoreTx}
use Rattle.edf_store.proofs.Readiness.{stays_then}
use Rattle.edf_intake.specs.Refusal.{Cause, OfForm, OfConflict, OfRead, OfMemory, OfStore}
use Rattle.edf_intake.specs.Refusal.{Answer, IsMemoryOrStoreRefusal, IsInDoubt, cause}
use Rattle.edf_fragment.specs.Call.{InputState}
use Rattle.edf_intake.specs.Input.{ReadsUntilInterrupted}
use Rattle.edf_intake.specs.Submitted.{RemainAfterCrash, Accepts, Refuses, IsInterrupted}
use Rattle.edf_intake.specs.Submitted.{IsRefusedFor, IsSubmitAnswer}
use Rattle.edf_intake.specs.Inside.Halt.{refusal_of_store_fault}
use Rattle.edf_intake.specs.Inside.Taken.{IsAcceptedInTransaction, StopsFor, StopsWith}
use Rattle.edf_intake.specs.Inside.Taken.{IsConflictInTransaction}
use Rattle.edf_intake.specs.declared.answer.Receipt.{Receipt}
use Rattle.edf_intake.specs.declared.answer.Refusal.{Refusal}
use Rattle.edf_intake.specs.declared.answer.Stop.TheVariants.{Input}
use Rattle.edf_holdings.proofs.Replies.{form_reply}

-- the refusal for a fault of the store
pub refused_by : {S : Type 0} (g : Ghosts S) (old new : StoreModel S) (from to : InputState)
    (fault : StoreFault) (refused : Refusal) → refused ≡ refusal_of_store_fault fault →
    IsInterrupted g old new from to (Err (refusal_of_store_fault fault)) →
    MayRefuse (IsBusy g old) (IsUnclean g new) ⊥ fault →
    IsSubmitAnswer g old new from to (Err refused)
refused_by g old new from to fault refused is stops why =
    subst (λ (r : Refusal). IsSubmitAnswer g old new from to (Err r)) (sym is) (by fault stops why)
  where
    by : (fault : StoreFault) → IsInterrupted g old new from to
        (Err (refusal_of_store_fault fault)) → MayRefuse (IsBusy g old) (IsUnclean g new) ⊥ fault →
        IsSubmitAnswer g old new from to (Err (refusal_of_store_fault fault))
    by Memory stops why = stops
    by (Store (Some error)) stops why = (stops, why)
    by (Store None) stops why = (stops, why)
    by Foreign stops why = (stops, why)
    by Failed stops why = (stops, why)

-- the same of what the question mark makes of the fault
pub refused_on : {S : Type 0} (g : Ghosts S) (old new : StoreModel S) (from to : InputState)
    (fault : StoreFault) (answer : Answer) →
    IsErrAnd answer (λ refused. refused ≡ refusal_of_store_fault fault) →
    IsInterrupted g old new from to (Err (refusal_of_store_fault fault)) →
    MayRefuse (IsBusy g old) (IsUnclean g new) ⊥ fault → IsSubmitAnswer g old new from to answer
refused_on g old new from to fault (Ok receipt) is stops why = absurd is
refused_on g old new from to fault (Err refused) is stops why =
    refused_by g old new from to fault refused is stops why

pub is_stopped : (fault : StoreFault) → IsMemoryOrStoreRefusal (Err (refusal_of_store_fault fault))
is_stopped Memory = tt
is_stopped (Store cause) = tt
is_stopped Foreign = tt
is_stopped Failed = tt

pub stopped_on : (fault : StoreFault) (answer : Answer) →
    IsErrAnd answer (λ refused. refused ≡ refusal_of_store_fault fault) →
    IsMemoryOrStoreRefusal answer
stopped_on fault (Ok receipt) is = absurd is
stopped_on fault (Err refused) is =
    subst (λ (r : Refusal). IsMemoryOrStoreRefusal (Err r)) (sym is) (is_stopped fault)

in_doubt : (fault : StoreFault) → HasCause fault → IsInDoubt (Err (refusal_of_store_fault fault))
in_doubt Memory cause = tt
in_doubt (Store (Some error)) cause = tt
in_doubt (Store None) cause = tt
in_doubt Foreign cause = absurd cause
in_doubt Failed cause = absurd cause

-- old was held, a transaction saw it as first, and last as it was to end, and new is held then
module _ {S : Type 0} (g : Ghosts S) (old : StoreModel S) (first last : StoreTx S)
    (from to : InputState) (begun : IsBegun g old first)
    (taken : KeepsHoldings g first.store.now last.store.now) where
  capped : first.store.now.cap ≡ old.cap
  capped = begun.stays.cap

  stays : KeepsHoldings g old last.store.now
  stays = stays_then g old first.store.now last.store.now begun.stays taken

  replied : (told : Parsed) (answer : Reply) →
      (HasCleanDisk (at g last.store.now) → (h : Holdings) → Sees g first.store.now h →
      reply first.store.now.cap h told ≡ answer)
      → HasCleanDisk (at g last.store.now) → (h : Holdings) → Holds g old h →
      reply old.cap h told ≡ answer
  replied told answer is clean h held =
      subst (λ (n : ℕ). reply n h told ≡ answer) capped (is clean h (begun.sees h held))

  left : (told : Parsed) → ((h : Holdings) → Sees g first.store.now h →
      Sees g last.store.now (after_one first.store.now.cap h told)) → (h : Holdings) →
      Holds g old h → Sees g last.store.now (after_one old.cap h told)
  left told is h held = subst (λ (n : ℕ). Sees g last.store.now (after_one n h told)) capped
      (is h (begun.sees h held))

  module _ (new : StoreModel S) where
    -- what a commit may leave
    crash_left : (told : Parsed) → ((h : Holdings) → Sees g first.store.now h →
        Sees g last.store.now (after_one first.store.now.cap h told)) →
        Survives (at g last.store.now) (at g new) (IsSeen g last.store.now) →
        Survives (at g old) (at g new) (RemainAfterCrash g old new told)
    crash_left told is survives = quiet_then (at g old) (at g last.store.now) (at g new)
        (RemainAfterCrash g old new told) stays.crash
        (survives_weaker (at g last.store.now) (at g new) (IsSeen g last.store.now)
        (RemainAfterCrash g old new told)
        (λ clean rows seen h held. subst
        (λ (n : ℕ). RepresentCommitted n rows (after_one old.cap h told))
        stays.cap (seen (after_one old.cap h told) (left told is h held))) survives)

    pub accepts : {X E : Type 0} (x : X) (receipt : Receipt) →
        IsAcceptedInTransaction g first last from to receipt →
        Commits g {E = E} last.store.now new (Ok x) → Accepts g old new from to receipt
    accepts x receipt t done = record {
      records = t.records;
      read = t.read;
      reply_is = λ clean h held. replied (Fragment receipt.identity t.records) _ t.reply_is
          (omega (arith, done.survives.clean)) h held;
      commits = record {
        cap = done.cap ∙ stays.cap;
        holdings = λ h held. done.committed
            (after_one old.cap h (Fragment receipt.identity t.records))
            (left (Fragment receipt.identity t.records) t.sees h held);
        others = others_committed_then (at g old) (at g last.store.now) (at g new) stays.others
            done.others;
        is_open = done.is_open;
        crash = crash_left (Fragment receipt.identity t.records) t.sees done.survives;
      };
    }

    -- the commit was refused
    pub stops_at_commit : {X : Type 0} (receipt : Receipt) →
        IsAcceptedInTransaction g first last from to receipt → (fault : StoreFault) →
        Commits g {X = X} last.store.now new (Err fault) → HasCause fault →
        IsInterrupted g old new from to (Err (refusal_of_store_fault fault))
    stops_at_commit receipt t fault refused cause = inr (
      in_doubt fault cause,
      (
        receipt.identity,
        t.records,
        t.read,
        record {
          cap = refused.cap ∙ stays.cap;
          holdings = λ h held. refused.refused h (stays.holdings h held);
          others = others_committed_then (at g old) (at g last.store.now) (at g new) stays.others
              refused.others;
          crash = crash_left (Fragment receipt.identity t.records) t.sees refused.survives;
        },
      ),
    )

    -- the transaction was given up
    module _ (undone : KeepsHoldings g last.store.now new) where
      pub all_stays : KeepsHoldings g old new
      all_stays = stays_then g old last.store.now new stays undone

      was : HasCleanDisk (at g new) → HasCleanDisk (at g last.store.now)
      was clean = omega (arith, undone.crash.clean)

      refuses : (answer : Reply) → IsConflictInTransaction g first last from to answer → (key : Key)
          × (records : List DataRecord) × Refuses g old new from to (Fragment key records) answer
      refuses answer r = (
        r.key,
        r.records,
        record {
          read = r.read;
          reply_is = λ clean h held.
              replied (Fragment r.key r.records) answer r.reply_is (was clean) h held;
          stays = all_stays;
        },
      )

      refused : (c : Cause) → StopsFor g first last from to c → IsRefusedFor g old new from to c
      refused (OfForm fault) r =
          record {
            read = r;
            reply_is = λ clean h held. form_reply old.cap h fault;
            stays = all_stays;
          }
      refused (OfConflict conflict) r = refuses _ r
      refused OfRead r = record { read = r; stays = all_stays }
      refused OfMemory r = inl (all_stays, inr (inr (inl r)))
      refused (OfStore fault) r = absurd r

      pub submitted : (told : Refusal) → StopsWith g first last from to (Input told) →
          IsSubmitAnswer g old new from to (Err told)
      submitted told r = refused (cause told) r

      front_of : (c : Cause) → StopsFor g first last from to c → ReadsUntilInterrupted from to
      front_of (OfForm fault) r = inr (inr (inr (inr (Fault fault, r))))
      front_of (OfConflict conflict) r = inr (inr (inr (inr (Fragment r.key r.records, r.read))))
      front_of OfRead r = inr (inr (inr (inl r)))
      front_of OfMemory r = inr (inr (inl r))
      front_of (OfStore fault) r = absurd r

      -- and that was refused
      pub stops_at_undo : (told : Refusal) → StopsWith g first last from to (Input told) →
          (fault : StoreFault) → IsInterrupted g old new from to
          (Err (refusal_of_store_fault fault))
      stops_at_undo told r fault = inl (all_stays, front_of (cause told) r)

      -- or a call before it
      pub stops_before : ReadsUntilInterrupted from to → (fault : StoreFault) →
          IsInterrupted g old new from to (Err (refusal_of_store_fault fault))
      stops_before front fault = inl (all_stays, front)
