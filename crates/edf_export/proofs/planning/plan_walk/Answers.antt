use Rattle.std.proofs.Common.{◌≡◌, ◌∙◌, ◌≤◌, ◌<◌, List, None, length, take, refl, sym, subst}
use Rattle.std.proofs.Common.{arith, rules}
use Rattle.std.proofs.lemmas.List.{take_all, length-take}
use Rattle.std.proofs.lemmas.Option.{slice_get_within}
use Rattle.std.proofs.lemmas.Result.{err_from_is_err_and}
use Rattle.edf_header.specs.declared.limits.TheConstants.{MOST_RECORDS}
use Rattle.edf_fragment.specs.Fragment.{DataRecord}
use Rattle.edf_store.proofs.Readiness.{stays_then}
use Rattle.edf_store.proofs.Faults.{is_store_refusal}
use Rattle.edf_canonical.specs.Measure.{IsMeasured, IsMeasuredSoFar}
use Rattle.edf_export.proofs.Calls.{leaves_on}
use Rattle.edf_export.proofs.FromWalk.{take-next}
use Rattle.edf_export.proofs.Walks.{stays_same, clean_before, refusal_why, not_failed, few_records}
use Rattle.edf_export.proofs.planning.plan_walk.Goals as goal

pub loop-init : goal.loop-init
loop-init g c = record {
  going = c.requires.ready.0;
  ready = c.requires.ready.1;
  same_reference = refl;
  stays = stays_same g.S.Store c.args.walk.now.store.now;
  moved = λ h k walked. walked;
  told = λ clean h k walked. refl;
}

pub loop-preserved : goal.loop-preserved
loop-preserved g c =
    let i = c.loop.invariant in
    let n = c.loop.counter in
    let moved = rw c.in-Some.is at c.in_ok-data_record.ensures.moved in
    let step = rw c.in-Some.is at c.in_ok-data_record.ensures.step in
    record {
      going = c.in_ok-data_record.ensures.changes.going;
      ready = c.in_ok-data_record.ensures.changes.walking;
      same_reference = c.next.ensures.changes.same_reference ∙ i.same_reference;
      stays = stays_then g.S.Store c.args.walk.now.store.now c.loop.walk.store.now
          c.next.new.self.store.now i.stays c.next.ensures.changes.stays;
      moved = λ h k walked. moved h k n (i.moved h k walked);
      told = λ clean h k walked.
          let was = clean_before g.S.Store c.loop.walk.store.now c.next.new.self.store.now
          c.next.ensures.changes.stays clean in
          let gives = step clean h k n (i.moved h k walked) in
          let capped : c.loop.walk.store.now.cap ≤ MOST_RECORDS =
          rw i.stays.cap c.requires.cap in
          let few = few_records _ _ _ _ h k n (i.moved h k walked was) in
          subst (λ rs. IsMeasured rs c.after.result) (sym (take-next (h k) n _ gives))
          (c.after.ensures.measured (take n (h k)) (i.told was h k walked)
          (omega (
            arith,
            slice_get_within (h k) n c.in-Some.data_record gives,
            few,
            capped,
            length-take n (h k),
          )));
    }

-- all were given
pub returns-in_default-clause-changes : goal.returns-in_default-clause-changes
returns-in_default-clause-changes g c =
    let i = c.loop.invariant in
    leaves_on g.S.Store _ c.args.walk.now c.loop.walk c.next.new.self _ i.same_reference i.stays
    c.next.ensures.changes (λ clean. (c.in_ok-data_record.ensures.changes.walking clean).3.idle)

pub returns-in_default-clause-walked : goal.returns-in_default-clause-walked
returns-in_default-clause-walked g c clean h k walked =
    let none : c.in_ok-data_record.field-0 ≡ None = search rules in
    let i = c.loop.invariant in
    let step = rw none at c.in_ok-data_record.ensures.step in
    let all : c.loop.counter ≡ length (h k) =
    step clean h k c.loop.counter (i.moved h k walked) in
    let was = clean_before g.S.Store c.loop.walk.store.now c.next.new.self.store.now
    c.next.ensures.changes.stays clean in
    subst (λ (rs : List DataRecord). IsMeasuredSoFar rs c.loop.plan)
    (take_all c.loop.counter (h k) (omega (arith, all))) (i.told was h k walked)

pub returns-in_err-data_record-clause-changes : goal.returns-in_err-data_record-clause-changes
returns-in_err-data_record-clause-changes g c =
    let p = err_from_is_err_and c.from_residual.result c.from_residual.ensures.1 in
    leaves_on g.S.Store _ c.args.walk.now c.loop.walk c.next.new.self _
    c.loop.invariant.same_reference c.loop.invariant.stays c.next.ensures.changes
    (λ clean. rw (p.1) tt)

pub returns-in_err-data_record-clause-walked : goal.returns-in_err-data_record-clause-walked
returns-in_err-data_record-clause-walked g c clean h k walked =
    let e = c.in_err-data_record.ensures in
    let p = err_from_is_err_and c.from_residual.result c.from_residual.ensures.1 in
    rw (p.1, p.2) (is_store_refusal _ _ _ c.in_err-data_record.field-0.0 e.changes.why
    (λ unclean. unclean clean) (not_failed _ c.loop.invariant.going))

pub returns-in_err-data_record-clause-why : goal.returns-in_err-data_record-clause-why
returns-in_err-data_record-clause-why g c =
    let e = c.in_err-data_record.ensures in
    let p = err_from_is_err_and c.from_residual.result c.from_residual.ensures.1 in
    rw (p.1, p.2) (refusal_why _ _ _ ⊥ c.in_err-data_record.field-0.0 e.changes.why (λ busy. busy)
    (not_failed _ c.loop.invariant.going))

-- more came than a recording may have
pub returns-clause-changes : goal.returns-clause-changes
returns-clause-changes g c = record {
  same_reference = c.loop.invariant.same_reference;
  stays = c.loop.invariant.stays;
  after = λ clean. tt;
}

pub returns-clause-walked : goal.returns-clause-walked
returns-clause-walked g c clean h k walked =
    let i = c.loop.invariant in
    let it = i.moved h k walked clean in
    let capped : c.loop.walk.store.now.cap ≤ MOST_RECORDS = rw i.stays.cap c.requires.cap in
    let few = few_records _ _ _ _ h k c.loop.counter it in
    let most : MOST_RECORDS < c.loop.counter = omega arith in
    absurd (omega (arith, it.within, few, capped, most))
