use Rattle.std.proofs.Common.{◌≡◌, ◌≤◌, ℕ, length, ◌+◌, ◌++◌, ◌∷◌, [], List, map, take, refl, sym}
use Rattle.std.proofs.Common.{ap, subst, ◌∙◌, arith, rules}
use Rattle.std.proofs.Math.ListN.{set}
use Rattle.std.proofs.lemmas.List.{take_all}
use Rattle.sqlite_trees.specs.declared.store.Store.{Ghosts}
use Rattle.edf_store.specs.Held.{StoreModel}
use Rattle.edf_intake.specs.Refusal.{Answer}
use Rattle.edf_fragment.specs.Call.{InputState, input_state}
use Rattle.edf_intake.specs.Batch.{SubmitsOne, AreSubmitted, IsOutsideTransactionAfterLast}
use Rattle.edf_intake.proofs.Fronts.{olds_more, nows_more, others_same}
use Rattle.edf_intake.proofs.Batches.{submitted_next, ended-next, in_turn, answers_all}
use Rattle.edf_intake.proofs.submission.submit_all.Goals as goal

-- all of the list was gone through
all_submitted : {S X : Type 0} (g : Ghosts S) (old new : StoreModel S) (state : X →
    InputState) (olds nows : List X) (i : ℕ) (answers : List Answer) → length olds ≤ i →
    length nows ≡ length olds
    → AreSubmitted g old new (map state (take i olds)) (map state (take i nows)) answers →
    AreSubmitted g old new (map state olds) (map state nows) answers
all_submitted g old new state olds nows i answers done same all =
    subst (λ l. AreSubmitted g old new (map state olds) (map state l) answers)
    (take_all i nows (omega (arith, done, same)))
    (subst (λ l. AreSubmitted g old new (map state l) (map state (take i nows)) answers)
    (take_all i olds done) all)

pub loop-input-init : goal.loop-input-init
loop-input-init g c =
    let none : c.in_ok-answers.answers.items ≡ [] = search rules in
    record {
      cap = refl;
      submitted = subst (λ (l : List Answer).
          AreSubmitted g.S.Store c.args.store.now c.args.store.now [] [] l) (sym none)
          refl;
      ended = subst (λ (l : List Answer). IsOutsideTransactionAfterLast g.S.Store c.args.store.now
          c.args.store.now l)
          (sym none) refl;
      others = refl;
      counted = search rules;
      reserved = search rules;
    }

pub loop-input-preserved : goal.loop-input-preserved
loop-input-preserved g c =
    let inv = c.loop-input.invariant in
    let i = c.loop-input.input-index in
    let olds = c.args.inputs.now in
    let nows = c.loop-input.inputs in
    let old = c.input-item.result in
    let new = c.submit-answer.new.input in
    let state = input_state g.R.Input in
    let more = olds_more state olds nows i old new c.loop-input-test.true inv.others
    c.input-item.is in
    let made = nows_more state olds nows i old new c.loop-input-test.true inv.others
    c.input-item.is in
    let one : SubmitsOne g.S.Store c.loop-input.store c.submit-answer.new.store (state old)
    (state new) c.submit-answer.result =
    subst (λ (r : g.row.R.Denot). SubmitsOne g.S.Store c.loop-input.store
    c.submit-answer.new.store (state r) (state new) c.submit-answer.result)
    (sym c.input-item.is) (record {
      submitted = c.submit-answer.ensures.submitted;
      ended = c.submit-answer.ensures.ended;
      busy = λ is.
          let it = c.submit-answer.ensures.busy is in
          (ap state it.0, it.1);
    }) in
    let step = submitted_next g.S.Store c.args.store.now c.loop-input.store
    c.submit-answer.new.store (map state (take i olds)) (map state (take i nows))
    c.loop-input.answers.items (state old) (state new) c.submit-answer.result inv.submitted one in
    record {
      cap = c.submit-answer.ensures.cap ∙ inv.cap;
      submitted = subst (λ (l : List Answer).
          AreSubmitted g.S.Store c.args.store.now c.submit-answer.new.store
          (map state (take (i + 1) olds)) (map state (take (i + 1) (set nows i new))) l)
          (sym c.push_reserved.ensures.items)
          (subst (λ (l : List InputState). AreSubmitted g.S.Store c.args.store.now
          c.submit-answer.new.store (map state (take (i + 1) olds)) l
          (c.loop-input.answers.items ++ c.submit-answer.result ∷ [])) (sym made)
          (subst (λ (l : List InputState). AreSubmitted g.S.Store c.args.store.now
          c.submit-answer.new.store l (map state (take i nows)
          ++ state new ∷ []) (c.loop-input.answers.items ++ c.submit-answer.result ∷ []))
          (sym more) step));
      ended = subst (λ (l : List Answer).
          IsOutsideTransactionAfterLast g.S.Store c.args.store.now c.submit-answer.new.store l)
          (sym c.push_reserved.ensures.items)
          (ended-next g.S.Store c.args.store.now c.submit-answer.new.store
          c.loop-input.answers.items c.submit-answer.result c.submit-answer.ensures.ended);
      others = others_same state olds nows i old new c.loop-input-test.true inv.others
          c.input-item.is;
      counted = omega (arith, c.push_reserved.ensures.len, inv.counted);
      reserved = search rules;
    }

pub returns-clause-submitted : goal.returns-clause-submitted
returns-clause-submitted g c =
    let inv = c.loop-input.invariant in
    let state = input_state g.R.Input in
    all_submitted g.S.Store c.args.store.now c.loop-input.store state c.args.inputs.now
    c.loop-input.inputs c.loop-input.input-index c.loop-input.answers.items
    c.loop-input-test.false c.loop-input.auto.inputs inv.submitted

pub returns-clause-answered : goal.returns-clause-answered
returns-clause-answered g c =
    let inv = c.loop-input.invariant in
    let state = input_state g.R.Input in
    answers_all g.S.Store c.args.store.now c.loop-input.store (map state c.args.inputs.now)
    (map state c.loop-input.inputs) c.loop-input.answers.items
    (in_turn g.S.Store c.args.store.now c.loop-input.store (map state c.args.inputs.now)
    (map state c.loop-input.inputs) c.loop-input.answers.items
    (all_submitted g.S.Store c.args.store.now c.loop-input.store state c.args.inputs.now
    c.loop-input.inputs c.loop-input.input-index c.loop-input.answers.items
    c.loop-input-test.false c.loop-input.auto.inputs inv.submitted))
