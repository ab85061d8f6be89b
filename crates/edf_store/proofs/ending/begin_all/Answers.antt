use Rattle.std.proofs.Common.{rules}
use Rattle.sqlite.specs.Held.{state}
use Rattle.edf_tables.proofs.Keeping.{shows_keeps}
use Rattle.edf_store.proofs.Begun.{stays_same, begun_sees, begun_runs}
use Rattle.edf_store.proofs.Held.{still_sound}
use Rattle.edf_store.proofs.Readiness.{stays_so}
use Rattle.edf_store.proofs.Steps.{whole_begun}
use Rattle.edf_store.proofs.Faults.{refuses_cause, on_refused}
use Rattle.edf_store.proofs.ending.begin_all.Goals as goal

pub invariant_of-store : goal.invariant_of-store
invariant_of-store g c = still_sound c.store.inside.cap (state g.S.Store c.store.inside.conn)
    (state g.S.Store c.begin.new.conn) _ c.begin.ensures.survives c.in_err-begin.ensures.refused
    c.store.invariant

pub invariant_of-store-2 : goal.invariant_of-store-2
invariant_of-store-2 g c =
    still_sound c.store.inside.cap (state g.S.Store c.store.inside.conn)
    (state g.S.Store c.begin.new.conn) _ c.begin.ensures.survives
    (λ clean. shows_keeps (state g.S.Store c.store.inside.conn) (state g.S.Store c.begin.new.conn) _
    _ (c.in_ok-begin.ensures.begun clean)) c.store.invariant

pub returns-then-not-is_autocommit-clause-begun : goal.returns-then-not-is_autocommit-clause-begun
returns-then-not-is_autocommit-clause-begun g c = rw (← c.store.view_is) (record {
  stays = stays_same g.S.Store _;
  running = tt;
  sees = tt;
  whole = tt;
})

pub returns-in_err-begin-clause-begun : goal.returns-in_err-begin-clause-begun
returns-in_err-begin-clause-begun g c = rw (← c.store.view_is) (record {
  stays = stays_so g.S.Store c.store.inside.cap c.store.inside.conn c.begin.new.conn
      c.begin.ensures.survives c.in_err-begin.ensures.refused;
  running = on_refused _ _ c.from_residual.result c.from_residual.ensures.1;
  sees = on_refused _ _ c.from_residual.result c.from_residual.ensures.1;
  whole = on_refused _ _ c.from_residual.result c.from_residual.ensures.1;
})

pub returns-in_err-begin-clause-refuses : goal.returns-in_err-begin-clause-refuses
returns-in_err-begin-clause-refuses g c =
    refuses_cause g.S.Store _ ⊥ _ c.from_residual.result (search rules) c.from_residual.ensures.1

pub returns-clause-begun : goal.returns-clause-begun
returns-clause-begun g c =
    let old = state g.S.Store c.store.inside.conn in
    let new = state g.S.Store c.begin.new.conn in
    let settled = c.is_autocommit.ensures.settled (search rules) in
    rw (← c.store.view_is) (record {
      stays = stays_so g.S.Store c.store.inside.cap c.store.inside.conn c.begin.new.conn
          c.begin.ensures.survives
          (λ clean. shows_keeps old new _ _ (c.in_ok-begin.ensures.begun clean));
      running = begun_runs c.store.inside.cap old new _ c.begin.ensures.survives
          c.in_ok-begin.ensures.begun settled c.store.invariant;
      sees = begun_sees c.store.inside.cap old new _ c.begin.ensures.survives
          c.in_ok-begin.ensures.begun settled c.store.invariant;
      whole = whole_begun c.store.inside.cap old new _ c.begin.ensures.survives
          c.in_ok-begin.ensures.begun settled c.store.invariant;
    })
