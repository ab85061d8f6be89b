use Rattle.std.proofs.Common.{◌≡◌, ◌∙◌, inl, inr, sym, subst, rules, arith, Ok, Err}
use Rattle.edf_store.specs.Call.{IsBusy, IsUnclean}
use Rattle.edf_store.specs.Held.{StoreModel}
use Rattle.edf_store.proofs.Faults.{with_cause, may_more}
use Rattle.edf_intake.specs.Refusal.{IsMemoryOrStoreRefusal}
use Rattle.edf_fragment.specs.Call.{input_state}
use Rattle.edf_intake.specs.Submitted.{Accepts, IsSubmitAnswer, IsOutsideTransactionAfterSubmit}
use Rattle.edf_intake.specs.declared.answer.Refusal.{Refusal}
use Rattle.edf_intake.proofs.Ending.{refused_by, refused_on, is_stopped, stopped_on, accepts}
use Rattle.edf_intake.proofs.Ending.{stops_at_commit, submitted, stops_at_undo, stops_before}
use Rattle.edf_intake.proofs.submission.submit.Goals as goal

pub returns-in_ok-commit-in-Ok-clause-cap : goal.returns-in_ok-commit-in-Ok-clause-cap
returns-in_ok-commit-in-Ok-clause-cap g c =
    let same : c.commit.new.self.0 ≡ c.store-in-Ok-1.given.0 =
    sym (c.store-in-Ok-1.given.1 (sym (c.in-Ok.ensures.changes.same_reference
    ∙ c.in_ok-transaction.ensures.same_reference))) in
    subst (λ (s : StoreModel g.row.S.Denot). s.cap ≡ c.args.store.now.cap) same
    (c.commit.ensures.commits.cap ∙ (c.in-Ok.ensures.changes.stays.cap
    ∙ c.in_ok-transaction.ensures.begun.stays.cap))

pub returns-in_ok-commit-in-Ok-clause-submitted : goal.returns-in_ok-commit-in-Ok-clause-submitted
returns-in_ok-commit-in-Ok-clause-submitted g c =
    let same : c.commit.new.self.0 ≡ c.store-in-Ok-1.given.0 =
    sym (c.store-in-Ok-1.given.1 (sym (c.in-Ok.ensures.changes.same_reference
    ∙ c.in_ok-transaction.ensures.same_reference))) in
    let from = input_state g.R.Input c.args.input.now in
    let to = input_state g.R.Input c.take_fragment.new.input in
    subst (λ (s : StoreModel g.row.S.Denot).
    Accepts g.S.Store c.args.store.now s from to c.in-Ok.receipt) same
    (accepts g.S.Store c.args.store.now c.in_ok-transaction.transaction
    c.take_fragment.new.transaction from to c.in_ok-transaction.ensures.begun
    c.in-Ok.ensures.changes.stays c.commit.new.self.0 _ c.in-Ok.receipt c.in-Ok.ensures.accepted
    c.in_ok-commit-in-Ok.ensures.commits)

pub returns-in_err-commit-in-Ok-clause-cap : goal.returns-in_err-commit-in-Ok-clause-cap
returns-in_err-commit-in-Ok-clause-cap g c =
    let same : c.commit.new.self.0 ≡ c.store-in-Ok-1.given.0 =
    sym (c.store-in-Ok-1.given.1 (sym (c.in-Ok.ensures.changes.same_reference
    ∙ c.in_ok-transaction.ensures.same_reference))) in
    subst (λ (s : StoreModel g.row.S.Denot). s.cap ≡ c.args.store.now.cap) same
    (c.commit.ensures.commits.cap ∙ (c.in-Ok.ensures.changes.stays.cap
    ∙ c.in_ok-transaction.ensures.begun.stays.cap))

pub returns-in_err-commit-in-Ok-clause-submitted : goal.returns-in_err-commit-in-Ok-clause-submitted
returns-in_err-commit-in-Ok-clause-submitted g c =
    let same : c.commit.new.self.0 ≡ c.store-in-Ok-1.given.0 =
    sym (c.store-in-Ok-1.given.1 (sym (c.in-Ok.ensures.changes.same_reference
    ∙ c.in_ok-transaction.ensures.same_reference))) in
    let old = c.args.store.now in
    let new = c.commit.new.self.0 in
    let from = input_state g.R.Input c.args.input.now in
    let to = input_state g.R.Input c.take_fragment.new.input in
    let fault = c.in_err-commit-in-Ok.field-0.0 in
    let answer = c.from_residual-in_err-commit-in-Ok.result in
    let cause = c.in_err-commit-in-Ok.ensures.why in
    subst (λ (s : StoreModel g.row.S.Denot). IsSubmitAnswer g.S.Store old s from to answer) same
    (refused_on g.S.Store old new from to fault answer c.from_residual-in_err-commit-in-Ok.ensures.1
    (stops_at_commit g.S.Store old c.in_ok-transaction.transaction c.take_fragment.new.transaction
    from to c.in_ok-transaction.ensures.begun c.in-Ok.ensures.changes.stays new c.in-Ok.receipt
    c.in-Ok.ensures.accepted fault c.in_err-commit-in-Ok.ensures.commits cause)
    (with_cause (IsBusy g.S.Store old) (IsUnclean g.S.Store new) ⊥ fault cause))

pub returns-in_err-commit-in-Ok-clause-busy : goal.returns-in_err-commit-in-Ok-clause-busy
returns-in_err-commit-in-Ok-clause-busy g c is =
    absurd (let e = c.in_ok-transaction.ensures.refuses.busy is in cc)

pub returns-in_ok-give_up-in-Err-Input-clause-submitted :
    goal.returns-in_ok-give_up-in-Err-Input-clause-submitted
returns-in_ok-give_up-in-Err-Input-clause-submitted g c =
    let same : c.give_up.new.self.0 ≡ c.store-in-Err-Input-1.given.0 = search rules in
    let from = input_state g.R.Input c.args.input.now in
    let to = input_state g.R.Input c.take_fragment.new.input in
    let stop = rw c.in-Err-Input.field-0-is at c.in-Err-Input.ensures.stopped in
    subst (λ (s : StoreModel g.row.S.Denot).
    IsSubmitAnswer g.S.Store c.args.store.now s from to (Err c.in-Err-Input.refusal)) same
    (submitted g.S.Store c.args.store.now c.in_ok-transaction.transaction
    c.take_fragment.new.transaction from to c.in_ok-transaction.ensures.begun
    c.in-Err-Input.ensures.changes.stays c.give_up.new.self.0
    c.in_ok-give_up-in-Err-Input.ensures.gives_up.stays c.in-Err-Input.refusal stop)

pub returns-in_err-give_up-in-Err-Input-clause-submitted :
    goal.returns-in_err-give_up-in-Err-Input-clause-submitted
returns-in_err-give_up-in-Err-Input-clause-submitted g c =
    let same : c.give_up.new.self.0 ≡ c.store-in-Err-Input-1.given.0 = search rules in
    let old = c.args.store.now in
    let new = c.give_up.new.self.0 in
    let from = input_state g.R.Input c.args.input.now in
    let to = input_state g.R.Input c.take_fragment.new.input in
    let stop = rw c.in-Err-Input.field-0-is at c.in-Err-Input.ensures.stopped in
    let fault = c.in_err-give_up-in-Err-Input.field-0.0 in
    let answer = c.from_residual-in_err-give_up-in-Err-Input.result in
    subst (λ (s : StoreModel g.row.S.Denot). IsSubmitAnswer g.S.Store old s from to answer) same
    (refused_on g.S.Store old new from to fault answer
    c.from_residual-in_err-give_up-in-Err-Input.ensures.1
    (stops_at_undo g.S.Store old c.in_ok-transaction.transaction c.take_fragment.new.transaction
    from to c.in_ok-transaction.ensures.begun c.in-Err-Input.ensures.changes.stays new
    c.in_err-give_up-in-Err-Input.ensures.gives_up.stays c.in-Err-Input.refusal stop fault)
    (with_cause (IsBusy g.S.Store old) (IsUnclean g.S.Store new) ⊥ fault
    c.in_err-give_up-in-Err-Input.ensures.why))

pub returns-in-Err-Store-clause-submitted : goal.returns-in-Err-Store-clause-submitted
returns-in-Err-Store-clause-submitted g c =
    let same : c.give_up-in-Err-Store.new.self.0 ≡ c.store-in-Err-Store-1.given.0 = search rules in
    let old = c.args.store.now in
    let last = c.take_fragment.new.transaction in
    let new = c.give_up-in-Err-Store.new.self.0 in
    let from = input_state g.R.Input c.args.input.now in
    let to = input_state g.R.Input c.take_fragment.new.input in
    let stop = rw c.in-Err-Store.field-0-is at c.in-Err-Store.ensures.stopped in
    let fault = c.in-Err-Store.fault in
    let undone = c.give_up-in-Err-Store.ensures.gives_up.stays in
    subst (λ (s : StoreModel g.row.S.Denot). IsSubmitAnswer g.S.Store old s from to
    (Err c.from.result)) same
    (refused_by g.S.Store old new from to fault c.from.result c.from.ensures
    (stops_before g.S.Store old c.in_ok-transaction.transaction last from to
    c.in_ok-transaction.ensures.begun c.in-Err-Store.ensures.changes.stays new undone
    (inr (inl stop.0)) fault)
    (may_more ⊥ (IsUnclean g.S.Store last.store.now) ⊥ (IsBusy g.S.Store old)
    (IsUnclean g.S.Store new) ⊥ (λ none. absurd none)
    (λ unclean clean. unclean (omega (arith, undone.crash.clean))) (λ none. none) fault stop.1))

pub returns-in_ok-commit-in-Ok-clause-ended : goal.returns-in_ok-commit-in-Ok-clause-ended
returns-in_ok-commit-in-Ok-clause-ended g c =
    let same : c.commit.new.self.0 ≡ c.store-in-Ok-1.given.0 =
    sym (c.store-in-Ok-1.given.1 (sym (c.in-Ok.ensures.changes.same_reference
    ∙ c.in_ok-transaction.ensures.same_reference))) in
    subst (λ (s : StoreModel g.row.S.Denot). IsOutsideTransactionAfterSubmit g.S.Store s
    (Ok c.in-Ok.receipt)) same
    (λ clean. inr (c.commit.ensures.commits.ended clean))

pub returns-in_err-commit-in-Ok-clause-ended : goal.returns-in_err-commit-in-Ok-clause-ended
returns-in_err-commit-in-Ok-clause-ended g c clean =
    inl (stopped_on c.in_err-commit-in-Ok.field-0.0 c.from_residual-in_err-commit-in-Ok.result
    c.from_residual-in_err-commit-in-Ok.ensures.1)

pub returns-in-Err-Store-clause-ended : goal.returns-in-Err-Store-clause-ended
returns-in-Err-Store-clause-ended g c clean =
    inl (subst (λ (r : Refusal). IsMemoryOrStoreRefusal (Err r)) (sym c.from.ensures)
    (is_stopped c.in-Err-Store.fault))
