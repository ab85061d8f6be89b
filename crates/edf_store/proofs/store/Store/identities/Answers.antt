use Rattle.edf_store.proofs.Faults.{idle_done, refuses_done, refuses_rows, refuses_on, on_refused}
use Rattle.edf_store.proofs.Readiness.{stays_then}
use Rattle.edf_store.proofs.store.Store.identities.Goals as goal

pub returns-in_err-ready-clause-changes : goal.returns-in_err-ready-clause-changes
returns-in_err-ready-clause-changes g c = record {
  stays = c.ready.ensures.settles.stays;
  idle = λ clean. on_refused _ _ c.from_residual.result c.from_residual.ensures.1;
}

pub returns-in_err-ready-clause-refuses : goal.returns-in_err-ready-clause-refuses
returns-in_err-ready-clause-refuses g c =
    refuses_on g.S.Store c.args.self.now _ c.in_err-ready.field-0.0 c.from_residual.result
    c.in_err-ready.ensures.refuses c.from_residual.ensures.1

pub returns-in_err-list-clause-changes : goal.returns-in_err-list-clause-changes
returns-in_err-list-clause-changes g c = record {
  stays = stays_then g.S.Store c.args.self.now c.ready.new.store c.list.new.store
      c.ready.ensures.settles.stays c.list.ensures.changes.stays;
  idle = λ clean. on_refused _ _ c.from_residual-in_err-list.result
      c.from_residual-in_err-list.ensures.1;
}

pub returns-in_err-list-clause-refuses : goal.returns-in_err-list-clause-refuses
returns-in_err-list-clause-refuses g c =
    refuses_rows g.S.Store c.args.self.now _ c.in_err-list.field-0.0
    c.from_residual-in_err-list.result
    (idle_done g.S.Store c.args.self.now _ _ c.in_ok-ready.ensures.refuses)
    c.from_residual-in_err-list.ensures.1
    (λ is clean. c.in_err-list.ensures.keys clean is)

pub returns-clause-changes : goal.returns-clause-changes
returns-clause-changes g c = record {
  stays = stays_then g.S.Store c.args.self.now c.ready.new.store c.list.new.store
      c.ready.ensures.settles.stays c.list.ensures.changes.stays;
  idle = c.in_ok-list.ensures.changes.idle;
}

pub returns-clause-refuses : goal.returns-clause-refuses
returns-clause-refuses g c =
    refuses_done g.S.Store c.args.self.now _ _
    (idle_done g.S.Store c.args.self.now _ _ c.in_ok-ready.ensures.refuses)

pub returns-clause-keys : goal.returns-clause-keys
returns-clause-keys g c clean h held =
    c.in_ok-list.ensures.keys clean h (c.ready.ensures.settles.stays.holdings h held)
