-- A list of submissions, one turn after another.
use Rattle.std.proofs.Common.{◌≡◌, ℕ, ◌⊎◌, List, [], ◌∷◌, ◌++◌, map, Option, Some, None, Ok, Err}
use Rattle.std.proofs.Common.{refl, sym, ap, subst, ◌∙◌, inl, inr}
use Rattle.std.specs.List.{AllByRecursion}
use Rattle.sqlite_trees.specs.declared.store.Store.{Ghosts}
use Rattle.sqlite.specs.State.{HasCleanDisk, Survives}
use Rattle.sqlite.proofs.StateLemmas.{survives_weaker}
use Rattle.edf_fragment.specs.Parsed.{Parsed, Fragment, Fault}
use Rattle.edf_fragment.specs.declared.fault.FragmentFault.{FragmentFault}
use Rattle.edf_fragment.proofs.Sound.{spelled-key, spelled-sound, spelled-begins}
use Rattle.edf_holdings.specs.Holdings.{Holdings, IsSound}
use Rattle.edf_holdings.specs.Reply.{Conflict, IsWellFormed, Reply, Form, Conflicts, Accepted}
use Rattle.edf_holdings.specs.Reply.{IsAccepted, reply, replies, after}
use Rattle.edf_holdings.proofs.Accepted.{refused_changes_nothing}
use Rattle.edf_rows.specs.Rows.{RepresentCommitted}
use Rattle.edf_store.specs.Held.{StoreModel, at, Holds, KeepsHoldings, KeepsOtherTables}
use Rattle.edf_store.specs.Call.{IsBusy}
use Rattle.edf_store.specs.declared.fault.StoreFault.{StoreFault}
use Rattle.edf_store.specs.declared.fault.StoreFault.TheVariants.{Memory, Store, Foreign, Failed}
use Rattle.edf_intake.specs.Refusal.{Answer, reply_of, IsMemoryOrStoreRefusal, IsInDoubt, cause}
use Rattle.edf_intake.specs.Refusal.{Cause, OfConflict, reply_of_cause}
use Rattle.edf_fragment.specs.Call.{InputState}
use Rattle.edf_intake.specs.Input.{ReadsAs, FailsToRead, ReadsUntilInterrupted}
use Rattle.edf_intake.specs.Submitted.{StoreMayRefuse, RemainAfterCrash, CommitsSubmission}
use Rattle.edf_intake.specs.Submitted.{MayHaveCommitted, Refuses}
use Rattle.edf_intake.specs.Submitted.{IsInterrupted, IsRefusedFor, IsSubmitAnswer}
use Rattle.edf_intake.specs.Batch.{Turn, some_values, submissions_in, replies_in, AgreesWith}
use Rattle.edf_intake.specs.Batch.{IsConsistentTurn, IsPossibleReply, MayHaveCommittedNext}
use Rattle.edf_intake.specs.Batch.{StoreCauseIsPossible, StoreRefusalIsPossible}
use Rattle.edf_intake.specs.declared.answer.Refusal.{Refusal}
use Rattle.edf_intake.specs.declared.answer.Refusal.TheVariants as refusal
use Rattle.edf_intake.proofs.Conflicts.{by_cause}

-- ---- lists

pub somes-append : {A : Type 0} (os ps : List (Option A)) →
    some_values (os ++ ps) ≡ some_values os ++ some_values ps
somes-append [] ps = refl
somes-append (None ∷ os) ps = somes-append os ps
somes-append {A} (Some x ∷ os) ps = ap (λ (l : List A). x ∷ l) (somes-append os ps)

pub map-next : {A B : Type 0} (f : A → B) (xs : List A) (x : A) → map f (xs ++ x ∷ []) ≡ map f xs
    ++ f x ∷ []
map-next f [] x = refl
map-next {A} {B} f (y ∷ ys) x = ap (λ (l : List B). f y ∷ l) (map-next f ys x)

pub all-next : {A : Type 0} (P : A → Type 0) (xs : List A) (x : A) → AllByRecursion P xs → P x →
    AllByRecursion P (xs ++ x ∷ [])
all-next P [] x all p = (p, tt)
all-next P (y ∷ ys) x all p = (all.0, all-next P ys x all.1 p)

pub told-next : (turns : List Turn) (t : Turn) →
    submissions_in (turns ++ t ∷ []) ≡ submissions_in turns
    ++ some_values (t.submission ∷ [])
told-next turns t = ap some_values (map-next (λ (u : Turn). u.submission) turns t)
    ∙ somes-append (map (λ (u : Turn). u.submission) turns) (t.submission ∷ [])

pub replies-next : (turns : List Turn) (t : Turn) → replies_in (turns ++ t ∷ []) ≡ replies_in turns
    ++ some_values (reply_of t.answer ∷ [])
replies-next turns t = ap some_values (map-next (λ (u : Turn). reply_of u.answer) turns t)
    ∙ somes-append (map (λ (u : Turn). reply_of u.answer) turns) (reply_of t.answer ∷ [])

-- ---- one turn

-- one submission, as the turn of a list
pub record IsMade {S : Type 0} (g : Ghosts S) (old new : StoreModel S) (t : Turn) : Type 0 where
  pub is_turn : IsConsistentTurn t
  pub own : StoreRefusalIsPossible g new t.answer
  pub cap : new.cap ≡ old.cap
  pub replied : HasCleanDisk (at g new) → (h : Holdings) → Holds g old h →
      some_values (reply_of t.answer ∷ []) ≡ replies old.cap h (some_values (t.submission ∷ []))
  pub holdings : (h : Holdings) → Holds g old h →
      Holds g new (after old.cap h (some_values (t.submission ∷ [])))
  pub others : KeepsOtherTables (at g old) (at g new)
  pub crash : Survives (at g old) (at g new) (λ rows. (h : Holdings) → Holds g old h →
      RepresentCommitted old.cap rows (after old.cap h (some_values (t.submission ∷ [])))
      ⊎ MayHaveCommittedNext old.cap h (t ∷ []) rows)

pub sound_told : (from to : InputState) (told : Parsed) → ReadsAs from to told → IsWellFormed told
sound_told from to (Fragment key records) r = (
  spelled-key r.bytes key records r.is_file,
  spelled-sound r.bytes key records r.is_file,
  spelled-begins r.bytes key records r.is_file,
)
sound_told from to (Fault fault) r = tt

module _ {S : Type 0} (g : Ghosts S) (old new : StoreModel S) (from to : InputState) where
  accepted_turn : (answer : Answer) (told : Parsed) (given : Reply) →
      StoreRefusalIsPossible g new answer →
      reply_of answer ≡ Some given → IsPossibleReply told given → ReadsAs from to told
      → (HasCleanDisk (at g new) → (h : Holdings) → Holds g old h → reply old.cap h told ≡ given) →
      CommitsSubmission g old new told
      → IsMade g old new (record { from = from; to = to; answer = answer; submission = Some told })
  accepted_turn answer told given own tells may heard is leaves = record {
    own = own;
    is_turn = subst (AgreesWith (record
        { from = from; to = to; answer = answer; submission = Some told })
        (Some told)) (sym tells) (heard, may);
    cap = leaves.cap;
    replied = λ clean h held. ap (λ (o : Option Reply). some_values (o ∷ [])) (tells
        ∙ ap (λ (r : Reply). Some r) (sym (is clean h held)));
    holdings = leaves.holdings;
    others = leaves.others;
    crash = survives_weaker (at g old) (at g new) (RemainAfterCrash g old new told) _
        (λ clean rows left h held. inl (left h held)) leaves.crash;
  }

  -- a refused one changes nothing
  refused_turn : (answer : Answer) (told : Parsed) (given : Reply) →
      StoreRefusalIsPossible g new answer →
      reply_of answer ≡ Some given → IsPossibleReply told given → ¬ IsAccepted given →
      Refuses g old new from to told given
      → IsMade g old new (record { from = from; to = to; answer = answer; submission = Some told })
  refused_turn answer told given own tells may never r = record {
    own = own;
    is_turn = subst (AgreesWith (record
        { from = from; to = to; answer = answer; submission = Some told })
        (Some told)) (sym tells) (r.read, may);
    cap = r.stays.cap;
    replied = λ clean h held. ap (λ (o : Option Reply). some_values (o ∷ [])) (tells
        ∙ ap (λ (x : Reply). Some x) (sym (r.reply_is clean h held)));
    holdings = λ h held clean is_open.
        let kept = r.stays.holdings h held clean is_open in
        let sound : IsSound old.cap h = subst (λ (n : ℕ). IsSound n h) r.stays.cap kept.sound in
        let same = refused_changes_nothing old.cap h told sound (sound_told from to told r.read)
        (λ yes. never (subst IsAccepted (r.reply_is clean h held) yes)) in
        subst (λ (z : Holdings). RepresentCommitted new.cap (at g new).committed.trees z)
        (sym same) kept;
    others = r.stays.others;
    crash = survives_weaker (at g old) (at g new) (λ _. ⊥) _ (λ clean rows none. absurd none)
        r.stays.crash;
  }

  silent_turn : (answer : Answer) → StoreRefusalIsPossible g new answer → reply_of answer ≡ None →
      (FailsToRead from to ⊎ IsMemoryOrStoreRefusal answer) → ReadsUntilInterrupted from to →
      KeepsHoldings g old new
      → IsMade g old new (record { from = from; to = to; answer = answer; submission = None })
  silent_turn answer own tells why front stays = record {
    own = own;
    is_turn = subst (AgreesWith (record
        { from = from; to = to; answer = answer; submission = None }) None)
        (sym tells) (why, front);
    cap = stays.cap;
    replied = λ clean h held. ap (λ (o : Option Reply). some_values (o ∷ [])) tells;
    holdings = stays.holdings;
    others = stays.others;
    crash = survives_weaker (at g old) (at g new) (λ _. ⊥) _ (λ clean rows none. absurd none)
        stays.crash;
  }

  unended_turn : (answer : Answer) (told : Parsed) → StoreRefusalIsPossible g new answer →
      reply_of answer ≡ None → IsMemoryOrStoreRefusal answer → IsInDoubt answer →
      ReadsAs from to told → MayHaveCommitted g old new told
      → IsMade g old new (record { from = from; to = to; answer = answer; submission = None })
  unended_turn answer told own tells why doubt heard may = record {
    own = own;
    is_turn = subst (AgreesWith (record
        { from = from; to = to; answer = answer; submission = None }) None)
        (sym tells) (inr why, inr (inr (inr (inr (told, heard)))));
    cap = may.cap;
    replied = λ clean h held. ap (λ (o : Option Reply). some_values (o ∷ [])) tells;
    holdings = may.holdings;
    others = may.others;
    crash = survives_weaker (at g old) (at g new) (RemainAfterCrash g old new told) _
        (λ clean rows left h held. inr (doubt, (told, heard, left h held))) may.crash;
  }

  stopped_turn : (answer : Answer) → StoreRefusalIsPossible g new answer → reply_of answer ≡ None →
      IsMemoryOrStoreRefusal answer → IsInterrupted g old new from to answer
      → (told : Option Parsed) × IsMade g old new
      (record { from = from; to = to; answer = answer; submission = told })
  stopped_turn answer own tells why (inl (stays, front)) =
      (None, silent_turn answer own tells (inr why) front stays)
  stopped_turn answer own tells why (inr (doubt, (key, records, read, may))) =
      (None, unended_turn answer (Fragment key records) own tells why doubt read may)

  own_refusal : (fault : StoreFault) → StoreMayRefuse g (IsBusy g old) new fault →
      StoreMayRefuse g (Unit {0}) new fault
  own_refusal Memory own = own
  own_refusal (Store (Some error)) own = tt
  own_refusal (Store None) own = tt
  own_refusal Foreign own = own
  own_refusal Failed own = own

  abbrev HasTurn : Refusal → Type 0
  HasTurn refused = IsSubmitAnswer g old new from to (Err refused) → (told : Option Parsed)
      × IsMade g old new (record { from = from; to = to; answer = Err refused; submission = told })

  form_turn : (fault : FragmentFault) → HasTurn (refusal.Form fault)
  form_turn fault r = (
    Some (Fault fault),
    refused_turn (Err (refusal.Form fault)) (Fault fault) (Form fault) tt refl refl (λ yes. yes) r,
  )

  conflict_turn : (refused : Refusal) (conflict : Conflict) → cause refused ≡ OfConflict conflict →
      HasTurn refused
  conflict_turn refused conflict of s =
      let (key, records, r) = subst (λ (c : Cause). IsRefusedFor g old new from to c) of s in (
        Some (Fragment key records),
        refused_turn (Err refused) (Fragment key records) (Conflicts conflict)
            (subst (λ (c : Cause). StoreCauseIsPossible g new c) (sym of) tt)
            (ap reply_of_cause of) tt (λ yes. yes) r,
      )

  read_turn : HasTurn refusal.Read
  read_turn f = (
    None,
    silent_turn (Err refusal.Read) tt refl (inl f.read) (inr (inr (inr (inl f.read)))) f.stays,
  )

  pub turn_of : (answer : Answer) → IsSubmitAnswer g old new from to answer → (told : Option Parsed)
      × IsMade g old new (record { from = from; to = to; answer = answer; submission = told })
  turn_of (Ok receipt) a = (
    Some (Fragment receipt.identity a.records),
    accepted_turn (Ok receipt) (Fragment receipt.identity a.records)
        (Accepted receipt.identity receipt.new receipt.known) tt refl refl a.read a.reply_is
        a.commits,
  )
  turn_of (Err refused) s = by_cause HasTurn form_turn conflict_turn read_turn
      (λ s. stopped_turn (Err refusal.Memory) tt refl tt s)
      (λ fault s. stopped_turn (Err (refusal.Store fault)) (own_refusal fault s.1) refl tt s.0)
      refused s
