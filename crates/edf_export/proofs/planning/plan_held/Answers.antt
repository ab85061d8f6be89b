use Rattle.std.proofs.Common.{◌≡◌, ◌∙◌, ◌≤◌, sym, subst, arith, rules}
use Rattle.std.specs.Prelude.{⊤}
use Rattle.std.proofs.lemmas.Result.{err_from_is_err_and, MatchResult-weaker, IfErr-weaker}
use Rattle.sqlite.specs.State.{HasCleanDisk}
use Rattle.edf_header.specs.declared.limits.TheConstants.{MOST_RECORDS}
use Rattle.edf_store.specs.Held.{at}
use Rattle.edf_store.proofs.Readiness.{stays_then}
use Rattle.edf_export.specs.Inside.Walks.{IsSoundRecording}
use Rattle.edf_store.proofs.Faults.{is_store_refusal}
use Rattle.edf_export.proofs.Walks.{clean_before, sound_recording, refusal_why}
use Rattle.edf_export.proofs.planning.plan_held.Goals as goal

pub returns-in_err-walk-clause-changes : goal.returns-in_err-walk-clause-changes
returns-in_err-walk-clause-changes g c =
    let p = err_from_is_err_and c.from_residual.result c.from_residual.ensures.1 in record {
      stays = search rules;
      idle = λ clean. rw (p.1) tt;
    }

pub returns-in_err-walk-clause-walked : goal.returns-in_err-walk-clause-walked
returns-in_err-walk-clause-walked g c clean h held =
    let p = err_from_is_err_and c.from_residual.result c.from_residual.ensures.1 in
    rw (p.1, p.2) (is_store_refusal _ ⊥ ⊥ c.in_err-walk.field-0.0 c.in_err-walk.ensures.refuses.why
    (λ no. no) (λ no. no))

pub returns-in_err-walk-clause-why : goal.returns-in_err-walk-clause-why
returns-in_err-walk-clause-why g c =
    let p = err_from_is_err_and c.from_residual.result c.from_residual.ensures.1 in
    rw (p.1, p.2) (refusal_why _ ⊥ ⊥ _ c.in_err-walk.field-0.0 c.in_err-walk.ensures.refuses.why
    (λ busy. busy) (λ no. no))

pub returns-clause-changes : goal.returns-clause-changes
returns-clause-changes g c =
    let same : c.drop-walk.new.self.0 ≡ c.store-2-1.given.0 = search rules in
    let l = c.plan_walk.ensures.changes in
    rw (← (sym c.drop-walk.ensures ∙ same)) (record {
      stays = stays_then g.S.Store c.args.store.now c.in_ok-walk.walk.store.now
          c.plan_walk.new.walk.store.now c.in_ok-walk.ensures.begun.stays l.stays;
      idle = l.after;
    })

pub returns-clause-walked : goal.returns-clause-walked
returns-clause-walked g c clean h held =
    let same : c.drop-walk.new.self.0 ≡ c.store-2-1.given.0 = search rules in
    let left = sym c.drop-walk.ensures ∙ same in
    let is_clean : HasCleanDisk (at g.S.Store c.plan_walk.new.walk.store.now) =
    rw left clean in
    let was = clean_before g.S.Store c.in_ok-walk.walk.store.now
    c.plan_walk.new.walk.store.now
    c.plan_walk.ensures.changes.stays is_clean in
    let cap : c.in_ok-walk.walk.store.now.cap ≡ c.store-2-1.given.0.cap =
    rw (← left) (sym c.plan_walk.ensures.changes.stays.cap) in
    let k = c.args.identity.now in
    let begun = c.in_ok-walk.ensures.begun.at_first h held in
    let sound : IsSoundRecording c.store-2-1.given.0.cap k (h k) =
    subst (λ n. IsSoundRecording n k (h k)) cap
    (sound_recording c.in_ok-walk.walk.store.now.cap (at g.S.Store c.in_ok-walk.walk.store.now)
    c.in_ok-walk.walk.recording c.in_ok-walk.walk.cursor h k 0 (begun was)) in
    MatchResult-weaker c.plan_walk.result
    (c.plan_walk.ensures.walked is_clean h k begun) (λ plan told. (told, sound))
    (λ fault refusal. refusal)

pub returns-clause-why : goal.returns-clause-why
returns-clause-why g c =
    IfErr-weaker c.plan_walk.result _ _
    (λ fault why. refusal_why ⊥ ⊤ ⊥ _ fault why (λ no. absurd no) (λ no. no))
    c.plan_walk.ensures.why

pub plan_walk-requires-clause-cap : goal.plan_walk-requires-clause-cap
plan_walk-requires-clause-cap g c =
    let few : c.in_ok-walk.walk.store.now.cap ≤ MOST_RECORDS =
    omega (arith, c.in_ok-walk.ensures.begun.stays.cap, c.requires.0, c.requires.1) in
    few
