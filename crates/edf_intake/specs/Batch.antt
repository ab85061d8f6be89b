-- Lists of submissions: their answers, and the store after them. First call by call; then all calls
-- as one list, where each has a reply, and in every case, with the rows after a crash.
use Rattle.std.specs.Prelude.{◌≡◌, ◌⊎◌, ℕ, List, [], ◌∷◌, ◌++◌, map, Option, Some, None, Ok, Err}
use Rattle.std.specs.List.{AllByRecursion, AllZip}
use Rattle.sqlite_trees.specs.declared.store.Store.{Ghosts}
use Rattle.sqlite_trees.specs.Tree.{Trees}
use Rattle.sqlite.specs.State.{HasCleanDisk, Survives}
use Rattle.edf_fragment.specs.Parsed.{Parsed, Fragment, Fault, ParsesTo}
use Rattle.edf_holdings.specs.Holdings.{Holdings}
use Rattle.edf_holdings.specs.Reply.{Reply, Form, Accepted, after_one, after, replies}
use Rattle.edf_rows.specs.Rows.{RepresentCommitted}
use Rattle.edf_store.specs.Call.{IsBusy}
use Rattle.edf_store.specs.Held.{StoreModel, at, Holds, KeepsOtherTables}
use Rattle.edf_intake.specs.Refusal.{Answer, reply_of, IsMemoryOrStoreRefusal, IsInDoubt, cause}
use Rattle.edf_intake.specs.Refusal.{Cause, OfStore}
use Rattle.edf_intake.specs.Submitted.{StoreMayRefuse, IsSubmitAnswer}
use Rattle.edf_intake.specs.Submitted.{IsOutsideTransactionAfterSubmit, busy_answer}
use Rattle.edf_fragment.specs.Call.{InputState}
use Rattle.edf_intake.specs.Input.{ReadsAs, FailsToRead, ReadsUntilInterrupted}

-- one call of `submit` gave this answer; if a transaction was open before it, it read no input
pub record SubmitsOne {S : Type 0} (g : Ghosts S) (old new : StoreModel S) (from to : InputState)
    (answer : Answer) : Type 0 where
  pub submitted : IsSubmitAnswer g old new from to answer
  pub ended : IsOutsideTransactionAfterSubmit g new answer
  pub busy : IsBusy g old → (to ≡ from) × (answer ≡ busy_answer)

-- The inputs were submitted one after another, each to the store as it was after the one before. So
-- at each `Accepted` the store was open and held the records, even if it was closed later.
abbrev pub AreSubmitted : {S : Type 0} → Ghosts S → StoreModel S → StoreModel S →
    List InputState → List InputState → List Answer → Type 0
AreSubmitted g old new [] [] [] = new ≡ old
AreSubmitted {S} g old new (from ∷ froms) (to ∷ tos) (answer ∷ answers) = (mid : StoreModel S)
    × SubmitsOne g old mid from to answer × AreSubmitted g mid new froms tos answers
AreSubmitted g old new froms tos answers = ⊥

-- the input's bytes are known, and parse to this
abbrev pub WillParseTo : InputState → Parsed → Type 0
WillParseTo from submission = (bytes : List ℕ) × (from.remaining ≡ Some bytes)
    × ParsesTo bytes submission

module _ {S : Type 0} (g : Ghosts S) (old new : StoreModel S) where
  -- The plain case: the inputs parse to these submissions, and each answer stands for a reply. Then
  -- these are the replies to the list, and the store holds what is held after the list.
  abbrev pub AnswersAreReplies : List InputState → List Answer → Type 0
  AnswersAreReplies froms answers = (submissions : List Parsed) (given : List Reply) →
      AllZip WillParseTo froms submissions →
      map reply_of answers ≡ map Some given → (h : Holdings) → Holds g old h →
      (HasCleanDisk (at g new) → given ≡ replies old.cap h submissions)
      × Holds g new (after old.cap h submissions)

-- one input's turn; `submission` is what it parses to, and `None` where the answer is from E40 on
pub record Turn : Type 0 where
  pub from : InputState
  pub to : InputState
  pub answer : Answer
  pub submission : Option Parsed

-- the values of those that are `Some`
abbrev pub some_values : {A : Type 0} → List (Option A) → List A
some_values [] = []
some_values (None ∷ os) = some_values os
some_values (Some x ∷ os) = x ∷ some_values os

-- the submissions that were parsed, and the replies that the answers stand for, in their order
abbrev pub submissions_in : List Turn → List Parsed
submissions_in turns = some_values (map (λ (t : Turn). t.submission) turns)

abbrev pub replies_in : List Turn → List Reply
replies_in turns = some_values (map (λ (t : Turn). reply_of t.answer) turns)

-- a faulty file's reply is `Form`, and a good one's never is; `Accepted` has the file's own key
abbrev pub IsPossibleReply : Parsed → Reply → Type 0
IsPossibleReply (Fault fault) answer = answer ≡ Form fault
IsPossibleReply (Fragment key records) (Form fault) = ⊥
IsPossibleReply (Fragment key records) (Accepted k new known) = k ≡ key
IsPossibleReply (Fragment key records) answer = Unit {0}

-- submission and reply agree: the input reads as the one, and the other is a possible reply to it;
-- or there is neither, for a failed read, want of memory or the store's refusal
abbrev pub AgreesWith : Turn → Option Parsed → Option Reply → Type 0
AgreesWith t (Some submission) (Some answer) = ReadsAs t.from t.to submission
    × IsPossibleReply submission answer
AgreesWith t None None = (FailsToRead t.from t.to ⊎ IsMemoryOrStoreRefusal t.answer)
    × ReadsUntilInterrupted t.from t.to
AgreesWith t submission answer = ⊥

abbrev pub IsConsistentTurn : Turn → Type 0
IsConsistentTurn t = AgreesWith t t.submission (reply_of t.answer)

-- where the store refused, its fault is one that `submit` may answer
abbrev pub StoreCauseIsPossible : {S : Type 0} → Ghosts S → StoreModel S → Cause → Type 0
StoreCauseIsPossible g new (OfStore fault) = StoreMayRefuse g (Unit {0}) new fault
StoreCauseIsPossible g new other = Unit {0}

abbrev pub StoreRefusalIsPossible : {S : Type 0} → Ghosts S → StoreModel S → Answer → Type 0
StoreRefusalIsPossible g new (Ok receipt) = Unit {0}
StoreRefusalIsPossible g new (Err refused) = StoreCauseIsPossible g new (cause refused)

-- the next input was answered E41 or E42, and the rows represent what is held after its submission
abbrev pub MayHaveCommittedNext : ℕ → Holdings → List Turn → Trees → Type 0
MayHaveCommittedNext cap h [] rows = ⊥
MayHaveCommittedNext cap h (t ∷ ts) rows = IsInDoubt t.answer
    × ((submission : Parsed) × ReadsAs t.from t.to submission
    × RepresentCommitted cap rows (after_one cap h submission))

-- the rows after a crash represent what is held after some first turns, perhaps with the next one
pub record MayRemainAfterCrash (cap : ℕ) (h : Holdings) (turns : List Turn)
    (rows : Trees) : Type 0 where
  pub first : List Turn
  pub rest : List Turn
  pub splits : turns ≡ first ++ rest
  pub stand : RepresentCommitted cap rows (after cap h (submissions_in first))
      ⊎ MayHaveCommittedNext cap (after cap h (submissions_in first)) rest rows

module _ {S : Type 0} (g : Ghosts S) (old new : StoreModel S) where
  -- In every case the inputs together are one list. Those answered E40 to E42 or E45 add nothing;
  -- the answers to the others, and what is held then, are as if only the others were submitted. The
  -- rows after a crash are what they could be before, or those after some first turns.
  pub record AreSubmittedAsList (froms tos : List InputState) (answers : List Answer) : Type 0
    where
      pub turns : List Turn
      pub froms_are : map (λ (t : Turn). t.from) turns ≡ froms
      pub tos_are : map (λ (t : Turn). t.to) turns ≡ tos
      pub answers_are : map (λ (t : Turn). t.answer) turns ≡ answers
      pub each : AllByRecursion IsConsistentTurn turns
      pub refusals : AllByRecursion (StoreRefusalIsPossible g new) answers
      pub replies_are : HasCleanDisk (at g new) → (h : Holdings) → Holds g old h →
          replies_in turns ≡ replies old.cap h (submissions_in turns)
      pub holdings : (h : Holdings) → Holds g old h →
          Holds g new (after old.cap h (submissions_in turns))
      pub others : KeepsOtherTables (at g old) (at g new)
      pub crash : Survives (at g old) (at g new) (λ rows. (h : Holdings) → Holds g old h →
          MayRemainAfterCrash old.cap h turns rows)

-- submissions one after another are one list
abbrev pub OneByOneIsAsList : {S : Type 0} → Ghosts S → Type 0
OneByOneIsAsList {S} g = (old new : StoreModel S) (froms tos : List InputState)
    (answers : List Answer) → AreSubmitted g old new froms tos answers →
    AreSubmittedAsList g old new froms tos answers

-- after the last answer no transaction is open, as `IsOutsideTransactionAfterSubmit` says; without
-- inputs the store is as it was
abbrev pub IsOutsideTransactionAfterLast : {S : Type 0} → Ghosts S → StoreModel S → StoreModel S →
    List Answer → Type 0
IsOutsideTransactionAfterLast g old new [] = new ≡ old
IsOutsideTransactionAfterLast g old new (answer ∷ []) = IsOutsideTransactionAfterSubmit g new answer
IsOutsideTransactionAfterLast g old new (answer ∷ next ∷ more) =
    IsOutsideTransactionAfterLast g old new (next ∷ more)
