-- What a session submits, turn after turn.
use Rattle.std.proofs.Common.{◌≡◌, List, [], ◌∷◌, ◌∙◌, ◌++◌, map, sym, subst, arith}
use Rattle.sqlite_trees.specs.declared.store.Store.{Ghosts}
use Rattle.sqlite.specs.State.{HasCleanDisk}
use Rattle.sqlite.proofs.StateLemmas.{survives_then}
use Rattle.edf_fragment.specs.Call.{InputState}
use Rattle.edf_store.specs.Held.{StoreModel, at, KeepsHoldings}
use Rattle.edf_store.proofs.Held.{others_committed_then}
use Rattle.edf_intake.specs.Refusal.{Answer}
use Rattle.edf_intake.specs.Submitted.{IsSubmitAnswer}
use Rattle.edf_intake.specs.Batch.{AreSubmittedAsList}
use Rattle.edf_intake.proofs.Batches.{next_submitted, own-later}
use Rattle.edf_intake.proofs.Turns.{map-next}
use Rattle.edf_serve.specs.Session.{AreSubmittedInTurn}
use Rattle.edf_serve.specs.Work.{Submission}

abbrev froms : List Submission → List InputState
froms all = map (λ (s : Submission). s.from) all

abbrev tos : List Submission → List InputState
tos all = map (λ (s : Submission). s.to) all

abbrev answers : List Submission → List Answer
answers all = map (λ (s : Submission). s.answer) all

module _ {S : Type 0} (g : Ghosts S) (old mid new : StoreModel S) where
  -- a call that changes nothing of what is held
  later : (fs ts : List InputState) (rs : List Answer) → AreSubmittedAsList g old mid fs ts rs →
      KeepsHoldings g mid new → AreSubmittedAsList g old new fs ts rs
  later fs ts rs all stays = record {
    turns = all.turns;
    froms_are = all.froms_are;
    tos_are = all.tos_are;
    answers_are = all.answers_are;
    each = all.each;
    refusals = own-later g mid new (λ clean. omega (arith, stays.crash.clean)) rs all.refusals;
    replies_are = λ clean h held.
        let was : HasCleanDisk (at g mid) = omega (arith, stays.crash.clean) in
        all.replies_are was h held;
    holdings = λ h held. stays.holdings _ (all.holdings h held);
    others = others_committed_then (at g old) (at g mid) (at g new) all.others stays.others;
    crash = survives_then (at g old) (at g mid) (at g new) _ _ _ (λ clean rows left. left)
        (λ clean rows none. absurd none) all.crash stays.crash;
  }

  pub stays-in_turn : (all : List Submission) → AreSubmittedInTurn g old mid all →
      KeepsHoldings g mid new → AreSubmittedInTurn g old new all
  stays-in_turn all before stays = record {
    cap = stays.cap ∙ before.cap;
    submitted = later (froms all) (tos all) (answers all) before.submitted stays;
  }

  -- one more
  pub more-in_turn : (all : List Submission) (s : Submission) → new.cap ≡ mid.cap →
      AreSubmittedInTurn g old mid all → IsSubmitAnswer g mid new s.from s.to s.answer →
      AreSubmittedInTurn g old new (all ++ (s ∷ []))
  more-in_turn all s capped before is =
      let it = next_submitted g old mid new (froms all) (tos all) (answers all) before.cap
      before.submitted s.from s.to s.answer is in
      record {
        cap = capped ∙ before.cap;
        submitted = subst (λ (l : List InputState).
            AreSubmittedAsList g old new l (tos (all ++ (s ∷ []))) (answers (all ++ (s ∷ []))))
            (sym (map-next (λ (s : Submission). s.from) all s))
            (subst (λ (l : List InputState).
            AreSubmittedAsList g old new (froms all ++ (s.from ∷ [])) l
            (answers (all ++ (s ∷ [])))) (sym (map-next (λ (s : Submission). s.to) all s))
            (subst (λ (l : List Answer). AreSubmittedAsList g old new (froms all ++ (s.from ∷ []))
            (tos all ++ (s.to ∷ [])) l) (sym (map-next (λ (s : Submission). s.answer) all s)) it));
      }
