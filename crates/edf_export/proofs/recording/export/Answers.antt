use Rattle.std.proofs.Common.{◌≡◌, None, refl, rules}
use Rattle.std.proofs.lemmas.Result.{err_from_is_err_and}
use Rattle.edf_store.proofs.Readiness.{stays_then}
use Rattle.edf_export.proofs.Calls.{refused_truly, written_truly}
use Rattle.edf_export.proofs.Exports.{keeps_same, none_out}
use Rattle.edf_export.proofs.Walks.{clean_before}
use Rattle.edf_export.proofs.recording.export.Goals as goal

-- ---- there is no plan since the store refuses

pub returns-in_err-plan-clause-changes : goal.returns-in_err-plan-clause-changes
returns-in_err-plan-clause-changes g c =
    let p = err_from_is_err_and c.from_residual.result c.from_residual.ensures.1 in
    record { stays = c.in_err-plan.ensures.changes.stays; idle = λ clean. rw (p.1, p.2) tt }

pub returns-in_err-plan-clause-answered : goal.returns-in_err-plan-clause-answered
returns-in_err-plan-clause-answered g c clean h held =
    let p = err_from_is_err_and c.from_residual.result c.from_residual.ensures.1 in
    rw (p.1, p.2) (none_out _ _ _, c.in_err-plan.ensures.planned clean h held)

pub returns-in_err-plan-clause-truly : goal.returns-in_err-plan-clause-truly
returns-in_err-plan-clause-truly g c =
    let p = err_from_is_err_and c.from_residual.result c.from_residual.ensures.1 in
    rw (p.1, p.2) (refused_truly _ _ _ _ _ c.in_err-plan.field-0.0 c.in_err-plan.ensures.why refl
    refl)

-- ---- there is none since nothing is held

pub returns-in_default-clause-changes : goal.returns-in_default-clause-changes
returns-in_default-clause-changes g c =
    let l = c.in_ok-plan.ensures.changes in record { stays = l.stays; idle = l.idle }

pub returns-in_default-clause-answered : goal.returns-in_default-clause-answered
returns-in_default-clause-answered g c clean h held =
    let none : c.in_ok-plan.field-0 ≡ None = search rules in
    (rw none at (c.in_ok-plan.ensures.planned clean h held), keeps_same _)

-- ---- the file is written, or not to its end

pub returns-clause-changes : goal.returns-clause-changes
returns-clause-changes g c =
    let l = c.write_planned.ensures.changes in record {
      stays = stays_then g.S.Store c.args.store.now c.plan_file.new.store
          c.write_planned.new.store c.plan_file.ensures.changes.stays l.stays;
      idle = l.idle;
    }

pub returns-clause-answered : goal.returns-clause-answered
returns-clause-answered g c clean h held =
    let was = clean_before g.S.Store c.plan_file.new.store c.write_planned.new.store
    c.write_planned.ensures.changes.stays clean in
    let planned = rw c.in-Some.is at (c.in_ok-plan.ensures.planned was) in
    c.write_planned.ensures.written clean h (c.plan_file.ensures.changes.stays.holdings h held)
    (planned h held)

pub returns-clause-truly : goal.returns-clause-truly
returns-clause-truly g c =
    written_truly _ _ _ _ _ c.write_planned.result c.write_planned.ensures.counted
