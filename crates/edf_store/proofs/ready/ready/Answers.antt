use Rattle.std.proofs.Common.{rules}
use Rattle.sqlite.specs.Held.{state}
use Rattle.edf_store.proofs.Begun.{stays_same}
use Rattle.edf_store.proofs.Faults.{refuses_cause, on_refused}
use Rattle.edf_store.proofs.Readiness.{stays_so, settled_now}
use Rattle.edf_store.proofs.ready.ready.Goals as goal

pub returns-then-not-is_autocommit-clause-settles :
    goal.returns-then-not-is_autocommit-clause-settles
returns-then-not-is_autocommit-clause-settles g c =
    rw (← c.store.view_is) (record { stays = stays_same g.S.Store _; settled = λ clean. tt })

pub returns-in_err-run_nothing-clause-settles : goal.returns-in_err-run_nothing-clause-settles
returns-in_err-run_nothing-clause-settles g c = rw (← c.store.view_is) (record {
  stays = stays_so g.S.Store c.store.inside.cap c.store.inside.conn c.run_nothing.new.conn
      c.run_nothing.ensures.survives c.run_nothing.ensures.committed;
  settled = λ clean. on_refused _ _ c.from_residual.result c.from_residual.ensures.1;
})

pub returns-in_err-run_nothing-clause-refuses : goal.returns-in_err-run_nothing-clause-refuses
returns-in_err-run_nothing-clause-refuses g c =
    refuses_cause g.S.Store _ ⊥ _ c.from_residual.result (search rules) c.from_residual.ensures.1

pub returns-clause-settles : goal.returns-clause-settles
returns-clause-settles g c = rw (← c.store.view_is) (record {
  stays = stays_so g.S.Store c.store.inside.cap c.store.inside.conn c.run_nothing.new.conn
      c.run_nothing.ensures.survives c.run_nothing.ensures.committed;
  settled = λ clean. settled_now c.store.inside.cap (state g.S.Store c.store.inside.conn)
      (state g.S.Store c.run_nothing.new.conn) _ c.run_nothing.ensures.survives clean
      (c.in_ok-run_nothing.ensures.same clean) (search rules)
      (c.is_autocommit.ensures.settled (search rules)) c.store.invariant;
})
