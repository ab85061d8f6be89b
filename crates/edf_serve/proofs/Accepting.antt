-- What is known where a file was accepted.
use Rattle.std.proofs.Common.{◌≡◌, ℕ, List, Option, Some, None, Ok, Err, sym, subst, inl, inr}
use Rattle.sqlite_trees.specs.declared.store.Store.{Ghosts}
use Rattle.edf_store.specs.Held.{StoreModel}
use Rattle.edf_intake.specs.Refusal.{Answer}
use Rattle.edf_intake.specs.Submitted.{IsSubmitAnswer, IsOutsideTransactionAfterSubmit}
use Rattle.edf_intake.specs.declared.answer.Receipt.{Receipt}
use Rattle.edf_cli.specs.Output.{OutputChange}
use Rattle.edf_serve.specs.Client.{HasAccepted, IsIdle}
use Rattle.edf_serve.specs.Exchange.{IsWorked}
use Rattle.edf_serve.specs.Line.{LineAsked}
use Rattle.edf_serve.specs.Line.LineAsked.{take, list}
use Rattle.edf_serve.specs.Taking.{IsAnswerSaid}
use Rattle.edf_serve.specs.Work.{Point, Work, Submission, grown}
use Rattle.edf_serve.specs.declared.room.Outcome.{Outcome}
use Rattle.edf_serve.specs.declared.room.Outcome.TheVariants as outcome

-- it may be told
pub record MayBeTold {S : Type 0} (g : Ghosts S) (store : StoreModel S) (receipt : Receipt) :
    Type 0 where
  pub idle : IsIdle g store
  pub accepted : HasAccepted g store receipt

module _ {S : Type 0} (g : Ghosts S) (folder : Option (List ℕ)) (old new : Point S)
    (submission : Option Submission) where
  abbrev pub done : Outcome → Work S
  done o = record { old = old; new = new; submission = submission; outcome = o }

  by-answer : (it : Submission) (answer : Answer) (out : OutputChange) (name : List ℕ) (given : _)
      (receipt : Receipt) → IsSubmitAnswer g old.store new.store it.from it.to answer →
      IsOutsideTransactionAfterSubmit g new.store answer →
      IsAnswerSaid out name answer (outcome.Accepted given receipt) → MayBeTold g new.store receipt
  by-answer it (Ok r) out name given receipt submitted ended said = record {
    idle = λ clean. elim (ended clean) [ inl n ↦ absurd n | inr i ↦ i ];
    accepted = subst (HasAccepted g new.store) (sym said.1) (record {
      old = old.store;
      from = it.from;
      to = it.to;
      submitted = submitted;
    });
  }
  by-answer it (Err refusal) out name given receipt submitted ended said = absurd said

  by-work : (asked : Option LineAsked) (given : _) (receipt : Receipt) →
      IsWorked g folder (done (outcome.Accepted given receipt)) asked →
      MayBeTold g new.store receipt
  by-work None given receipt w = absurd w.1.1.1
  by-work (Some (take name)) given receipt w = elim w [
    | inl t ↦ by-answer t.2.it t.2.it.answer (grown old.out new.out) name given receipt
        t.2.submitted t.2.ended t.2.said
    | inr n ↦ absurd n.1.1.1
  ]
  by-work (Some list) given receipt w = absurd w.1.1.1

  pub may-be_told : (asked : Option LineAsked) (o : Outcome) (given : _) (receipt : Receipt) →
      o ≡ outcome.Accepted given receipt → IsWorked g folder (done o) asked →
      MayBeTold g new.store receipt
  may-be_told asked o given receipt e w = by-work asked given receipt
      (subst (λ (p : Outcome). IsWorked g folder (done p) asked) e w)
