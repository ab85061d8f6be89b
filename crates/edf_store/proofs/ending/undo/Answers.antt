use Rattle.sqlite.specs.Held.{state}
use Rattle.edf_store.proofs.Faults.{on_refused}
use Rattle.edf_store.proofs.Held.{still_sound}
use Rattle.edf_store.proofs.Readiness.{stays_so}
use Rattle.edf_store.proofs.ending.undo.Goals as goal

pub invariant_of-store : goal.invariant_of-store
invariant_of-store g c = still_sound c.store.inside.cap (state g.S.Store c.store.inside.conn)
    (state g.S.Store c.roll_back.new.conn) _ c.roll_back.ensures.survives
    c.roll_back.ensures.committed c.store.invariant

pub invariant_of-store-2 : goal.invariant_of-store-2
invariant_of-store-2 g c = still_sound c.store.inside.cap (state g.S.Store c.store.inside.conn)
    (state g.S.Store c.roll_back.new.conn) _ c.roll_back.ensures.survives
    c.roll_back.ensures.committed c.store.invariant

pub returns-in_err-roll_back : goal.returns-in_err-roll_back
returns-in_err-roll_back g c = rw (← c.store.view_is) (record {
  stays = stays_so g.S.Store c.store.inside.cap c.store.inside.conn c.roll_back.new.conn
      c.roll_back.ensures.survives c.roll_back.ensures.committed;
  ended = λ clean. on_refused _ _ c.from_residual.result c.from_residual.ensures.1;
})

pub returns : goal.returns
returns g c = rw (← c.store.view_is) (record {
  stays = stays_so g.S.Store c.store.inside.cap c.store.inside.conn c.roll_back.new.conn
      c.roll_back.ensures.survives c.roll_back.ensures.committed;
  ended = λ clean. (c.in_ok-roll_back.ensures.undone clean).autocommit;
})
