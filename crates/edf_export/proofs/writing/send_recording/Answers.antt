use Rattle.std.proofs.Common.{◌≡◌, ◌∙◌, [], refl, sym, rules}
use Rattle.std.proofs.lemmas.Result.{err_from_is_err_and, MatchResult-weaker}
use Rattle.std.proofs.KnownBytes.{Appends-nil}
use Rattle.edf_store.proofs.Readiness.{stays_then}
use Rattle.edf_export.proofs.Calls.{counts_weaker}
use Rattle.edf_store.proofs.Faults.{is_store_refusal}
use Rattle.edf_export.proofs.Walks.{refusal_why}
use Rattle.edf_export.proofs.writing.send_recording.Goals as goal

pub returns-in_err-walk-clause-changes : goal.returns-in_err-walk-clause-changes
returns-in_err-walk-clause-changes g c =
    let p = err_from_is_err_and c.from_residual.result c.from_residual.ensures.1 in
    record { stays = search rules; idle = λ clean. rw (p.1, p.2) tt }

pub returns-in_err-walk-clause-sent : goal.returns-in_err-walk-clause-sent
returns-in_err-walk-clause-sent g c clean h held plan =
    let p = err_from_is_err_and c.from_residual.result c.from_residual.ensures.1 in
    rw (p.1, p.2) (
      record { prefix = []; remaining = _; parts = refl; wrote = Appends-nil _ },
      is_store_refusal _ ⊥ ⊥ c.in_err-walk.field-0.0 c.in_err-walk.ensures.refuses.why (λ no. no)
          (λ no. no),
    )

pub returns-in_err-walk-clause-counted : goal.returns-in_err-walk-clause-counted
returns-in_err-walk-clause-counted g c =
    let p = err_from_is_err_and c.from_residual.result c.from_residual.ensures.1 in
    rw (p.1, p.2) (
      refl,
      refusal_why _ ⊥ ⊥ _ c.in_err-walk.field-0.0
          c.in_err-walk.ensures.refuses.why (λ busy. busy) (λ no. no),
    )

pub returns-clause-changes : goal.returns-clause-changes
returns-clause-changes g c =
    let same : c.drop-walk.new.self.0 ≡ c.store-2-1.given.0 = search rules in
    let l = c.send_walk.ensures.changes in
    rw (← (sym c.drop-walk.ensures ∙ same)) (record {
      stays = stays_then g.S.Store c.args.store.now c.in_ok-walk.walk.store.now
          c.send_walk.new.walk.store.now c.in_ok-walk.ensures.begun.stays l.stays;
      idle = l.after;
    })

pub returns-clause-counted : goal.returns-clause-counted
returns-clause-counted g c =
    MatchResult-weaker c.send_walk.result c.send_walk.ensures.counted (λ done same. same)
    (λ fault counts. counts_weaker ⊥ _ _ _ fault (λ no. absurd no) counts)
