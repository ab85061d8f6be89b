-- Laws of sessions.
use Rattle.std.specs.Prelude.{◌≡◌, ℕ, ◌+◌, List, ◌++◌, length, map, Some, All, Contains, IsTrue}
use Rattle.std.specs.List.{AllZip}
use Rattle.sqlite_trees.specs.declared.store.Store.{Ghosts}
use Rattle.sqlite.specs.State.{HasCleanDisk}
use Rattle.edf_fragment.specs.Fragment.{DataRecord}
use Rattle.edf_fragment.specs.Parsed.{Parsed, Fragment}
use Rattle.edf_holdings.specs.Holdings.{Holdings, IsSound}
use Rattle.edf_holdings.specs.Reply.{Reply, after, after_one}
use Rattle.edf_store.specs.Held.{StoreModel, at, Holds}
use Rattle.edf_intake.specs.Batch.{WillParseTo}
use Rattle.edf_intake.specs.Input.{ReadsWhole}
use Rattle.edf_intake.specs.Refusal.{reply_of}
use Rattle.edf_intake.specs.declared.answer.Receipt.{Receipt}
use Rattle.edf_serve.specs.Client.{HasAccepted}
use Rattle.edf_serve.specs.Line.{LineAsked, AskFor}
use Rattle.edf_serve.specs.Session.{AreSubmittedInTurn}
use Rattle.edf_serve.specs.Work.{Submission}

-- a line asks for one thing at most
abbrev pub AsksOnce : Type 0
AsksOnce = (line : List ℕ) (one other : LineAsked) → AskFor line one → AskFor line other →
    one ≡ other

module _ {S : Type 0} (g : Ghosts S) where
  -- what a receipt tells is held: where the store held h before, it is open, and holds what the
  -- file leaves, the data records of the file, different ones, as many as the receipt counts
  pub record HoldsFile (store : StoreModel S) (receipt : Receipt)
      (it : HasAccepted g store receipt) (h : Holdings) : Type 0 where
    pub records : List DataRecord
    pub read : ReadsWhole it.from it.to receipt.identity records
    pub counted : length records ≡ receipt.new + receipt.known
    pub is_open : IsTrue (at g store).is_open
    pub held : Holdings
    pub held_is : held ≡ after_one it.old.cap h (Fragment receipt.identity records)
    pub holds : Holds g store held
    pub each : All (Contains (held receipt.identity)) records

  abbrev pub TakenIsHeld : Type 0
  TakenIsHeld = (store : StoreModel S) (receipt : Receipt) (it : HasAccepted g store receipt)
      (h : Holdings) → IsSound it.old.cap h → Holds g it.old h → HasCleanDisk (at g store) →
      HoldsFile store receipt it h

  -- A session that is broken off and begun again with all its files ends alike: over a store that
  -- holds what the files told that were submitted before, let one submit files that tell these and
  -- more, and each answer be a reply. It leaves what one session leaves that is not broken off.
  abbrev pub BrokenOffEndsAlike : Type 0
  BrokenOffEndsAlike = (old new : StoreModel S) (all : List Submission) (front rest : List Parsed)
      (given : List Reply) (h : Holdings) → IsSound old.cap h →
      Holds g old (after old.cap h front) → AreSubmittedInTurn g old new all →
      AllZip WillParseTo (map (λ (s : Submission). s.from) all) (front ++ rest) →
      map reply_of (map (λ (s : Submission). s.answer) all)
      ≡ map (λ (r : Reply). Some r) given → Holds g new (after old.cap h (front ++ rest))
