use Rattle.std.proofs.Common.{arith, w64, rules, None, ◌≡◌}
use Rattle.std.proofs.lemmas.Int.{to_z-of_z}
use Rattle.sqlite.specs.State.{HasCleanDisk}
use Rattle.edf_store.specs.Held.{at}
use Rattle.edf_store.proofs.Faults.{idle_done, refuses_done, refuses_cause, refuses_rows}
use Rattle.edf_store.proofs.Faults.{refuses_on, on_refused}
use Rattle.edf_store.proofs.Readiness.{stays_then, held_now}
use Rattle.edf_store.proofs.store.Store.summary.Goals as goal

pub returns-in_err-ready-clause-changes : goal.returns-in_err-ready-clause-changes
returns-in_err-ready-clause-changes g c = record {
  stays = c.ready.ensures.settles.stays;
  idle = λ clean. on_refused _ _ c.from_residual.result c.from_residual.ensures.1;
}

pub returns-in_err-ready-clause-refuses : goal.returns-in_err-ready-clause-refuses
returns-in_err-ready-clause-refuses g c =
    refuses_on g.S.Store c.args.self.now _ c.in_err-ready.field-0.0 c.from_residual.result
    c.in_err-ready.ensures.refuses c.from_residual.ensures.1

pub returns-in_err-id-clause-changes : goal.returns-in_err-id-clause-changes
returns-in_err-id-clause-changes g c = record {
  stays = stays_then g.S.Store c.args.self.now c.ready.new.store c.find.new.store
      c.ready.ensures.settles.stays c.find.ensures.settles.stays;
  idle = λ clean. on_refused _ _ c.from_residual-in_err-id.result
      c.from_residual-in_err-id.ensures.1;
}

pub returns-in_err-id-clause-refuses : goal.returns-in_err-id-clause-refuses
returns-in_err-id-clause-refuses g c =
    refuses_cause g.S.Store c.args.self.now _ c.in_err-id.field-0.0 c.from_residual-in_err-id.result
    (idle_done g.S.Store c.args.self.now _ _ c.in_ok-ready.ensures.refuses)
    c.from_residual-in_err-id.ensures.1

pub returns-in_default-clause-changes : goal.returns-in_default-clause-changes
returns-in_default-clause-changes g c = record {
  stays = stays_then g.S.Store c.args.self.now c.ready.new.store c.find.new.store
      c.ready.ensures.settles.stays c.find.ensures.settles.stays;
  idle = λ clean. (c.in_ok-id.ensures.settles.settled clean).idle;
}

pub returns-in_default-clause-refuses : goal.returns-in_default-clause-refuses
returns-in_default-clause-refuses g c =
    refuses_done g.S.Store c.args.self.now _ _
    (idle_done g.S.Store c.args.self.now _ _ c.in_ok-ready.ensures.refuses)

pub returns-in_default-clause-summary : goal.returns-in_default-clause-summary
returns-in_default-clause-summary g c clean h held =
    let s = at g.S.Store c.find.new.store in
    let none : c.in_ok-id.field-0 ≡ None = search rules in
    let kept = held_now c.find.new.store.cap s clean (c.in_ok-id.ensures.settles.settled clean) h
    (c.find.ensures.settles.stays.holdings h (c.ready.ensures.settles.stays.holdings h held)) in
    rw none at (c.in_ok-id.ensures.answer clean h kept)

pub summary_of-requires-clause-there : goal.summary_of-requires-clause-there
summary_of-requires-clause-there g c clean =
    let it = c.in_ok-id.ensures.settles.settled clean in
    let there = rw c.in-Some.is at (c.in_ok-id.ensures.answer clean it.holdings.0 it.holdings.1) in
    (c.args.identity.now, rw (to_z-of_z w64 c.in-Some.id (search rules)) there)

pub returns-in_err-summary-clause-changes : goal.returns-in_err-summary-clause-changes
returns-in_err-summary-clause-changes g c = record {
  stays = stays_then g.S.Store c.args.self.now c.find.new.store c.summary_of.new.store
      (stays_then g.S.Store c.args.self.now c.ready.new.store c.find.new.store
      c.ready.ensures.settles.stays c.find.ensures.settles.stays)
      c.summary_of.ensures.changes.stays;
  idle = λ clean. on_refused _ _ c.from_residual-in_err-summary.result
      c.from_residual-in_err-summary.ensures.1;
}

pub returns-in_err-summary-clause-refuses : goal.returns-in_err-summary-clause-refuses
returns-in_err-summary-clause-refuses g c =
    refuses_rows g.S.Store c.args.self.now _ c.in_err-summary.field-0.0
    c.from_residual-in_err-summary.result
    (idle_done g.S.Store c.args.self.now _ _ c.in_ok-ready.ensures.refuses)
    c.from_residual-in_err-summary.ensures.1
    (λ is clean. c.in_err-summary.ensures.summary clean is)

pub returns-clause-changes : goal.returns-clause-changes
returns-clause-changes g c = record {
  stays = stays_then g.S.Store c.args.self.now c.find.new.store c.summary_of.new.store
      (stays_then g.S.Store c.args.self.now c.ready.new.store c.find.new.store
      c.ready.ensures.settles.stays c.find.ensures.settles.stays)
      c.summary_of.ensures.changes.stays;
  idle = c.in_ok-summary.ensures.changes.idle;
}

pub returns-clause-refuses : goal.returns-clause-refuses
returns-clause-refuses g c =
    refuses_done g.S.Store c.args.self.now _ _
    (idle_done g.S.Store c.args.self.now _ _ c.in_ok-ready.ensures.refuses)

pub returns-clause-summary : goal.returns-clause-summary
returns-clause-summary g c clean h held =
    let s = at g.S.Store c.find.new.store in
    let was_clean : HasCleanDisk s =
    omega (arith, c.summary_of.ensures.changes.stays.crash.clean, clean) in
    let now = c.find.ensures.settles.stays.holdings h
    (c.ready.ensures.settles.stays.holdings h held) in
    let kept = held_now c.find.new.store.cap s was_clean
    (c.in_ok-id.ensures.settles.settled was_clean) h now in
    let there = rw c.in-Some.is at (c.in_ok-id.ensures.answer was_clean h kept) in
    c.in_ok-summary.ensures.summary clean h c.args.identity.now now
    (rw (to_z-of_z w64 c.in-Some.id (search rules)) there)
