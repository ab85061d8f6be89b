use Rattle.std.proofs.Common.{◌≡◌, None, arith, rules}
use Rattle.std.proofs.lemmas.Result.{err_from_is_err_and}
use Rattle.edf_export.proofs.Walks.{may_start, refusal_why}
use Rattle.edf_export.proofs.planning.plan_file.Goals.{then-plan-cap-via-then-plan-cap}
use Rattle.edf_export.proofs.planning.plan_file.Goals.{then-plan-cap-via-else-plan-cap+then-not-may_start}
use Rattle.edf_export.proofs.planning.plan_file.Goals as goal

-- ---- the walk is refused

pub returns-in_err-plan-clause-changes : goal.returns-in_err-plan-clause-changes
returns-in_err-plan-clause-changes g c =
    let p = err_from_is_err_and c.from_residual.result c.from_residual.ensures.1 in
    record { stays = c.in_err-plan.ensures.changes.stays; idle = λ clean. rw (p.1) tt }

pub returns-in_err-plan-clause-planned : goal.returns-in_err-plan-clause-planned
returns-in_err-plan-clause-planned g c clean h held =
    let p = err_from_is_err_and c.from_residual.result c.from_residual.ensures.1 in
    rw (p.1, p.2) (c.in_err-plan.ensures.walked clean h held)

pub returns-in_err-plan-clause-why : goal.returns-in_err-plan-clause-why
returns-in_err-plan-clause-why g c =
    let p = err_from_is_err_and c.from_residual.result c.from_residual.ensures.1 in
    rw (p.1, p.2) (refusal_why _ _ ⊥ _ c.in_err-plan.field-0.0 c.in_err-plan.ensures.why
    (λ busy clean. busy) (λ no. no))

-- ---- nothing is held

pub returns-in_default-clause-changes : goal.returns-in_default-clause-changes
returns-in_default-clause-changes g c =
    let l = c.in_ok-plan.ensures.changes in record { stays = l.stays; idle = l.idle }

pub returns-in_default-clause-planned : goal.returns-in_default-clause-planned
returns-in_default-clause-planned g c clean h held =
    let none : c.in_ok-plan.field-0 ≡ None = search rules in
    (rw none at (c.in_ok-plan.ensures.walked clean h held)).0

-- ---- rows that no store has

pub returns-then-plan-cap-clause-changes : goal.returns-then-plan-cap-clause-changes
returns-then-plan-cap-clause-changes g c =
    let l = c.in_ok-plan.ensures.changes in record { stays = l.stays; idle = λ clean. tt }

pub returns-then-plan-cap-clause-planned : goal.returns-then-plan-cap-clause-planned
returns-then-plan-cap-clause-planned g c clean h held =
    let it = rw c.in-Some.is at (c.in_ok-plan.ensures.walked clean h held) in
    let same = c.in_ok-plan.ensures.changes.stays.cap in
    let records = h c.args.identity.now in
    elim c.then-plan-cap.branch [
      | then-plan-cap-via-then-plan-cap w ↦
          absurd (omega (
            arith,
            it.0.count,
            it.1.within_cap,
            same,
            c.cap-cap.ensures.value,
            w.if-plan-cap.true,
          ))
      | then-plan-cap-via-else-plan-cap+then-not-may_start w ↦
          let may = w.may_start.ensures.1 (may_start c.args.identity.now records c.in-Some.plan it.0
          it.1.begins) in
          absurd (let not = w.if-not-may_start.true in cc)
    ]

-- ---- the plan

pub returns-clause-changes : goal.returns-clause-changes
returns-clause-changes g c =
    let l = c.in_ok-plan.ensures.changes in record { stays = l.stays; idle = l.idle }

pub returns-clause-planned : goal.returns-clause-planned
returns-clause-planned g c clean h held =
    let it = rw c.in-Some.is at (c.in_ok-plan.ensures.walked clean h held) in
    let sound = it.1 in
    record {
      recording = record {
        key = sound.key;
        sound = sound.sound;
        begins = sound.begins;
        within_cap = omega (
          arith,
          sound.within_cap,
          c.in_ok-plan.ensures.changes.stays.cap,
          c.cap-cap.ensures.value,
          c.cap-cap.ensures.bound.1,
        );
      };
      measured = it.0;
    }
