use Rattle.std.proofs.Common.{◌≡◌, rules, arith}
use Rattle.sqlite.specs.Held.{state}
use Rattle.edf_header.specs.Key.{key_bytes}
use Rattle.edf_store.proofs.Begun.{stays_same}
use Rattle.edf_store.proofs.Faults.{on_refused}
use Rattle.edf_store.proofs.Held.{still_sound}
use Rattle.edf_store.proofs.Readiness.{found_now, stays_so, still_settled}
use Rattle.edf_store.proofs.ready.find.Goals as goal

pub returns-clause-answer : goal.returns-clause-answer
returns-clause-answer g c clean h kept =
    let is : c.as_slice.result.now ≡ key_bytes c.args.identity.now = search rules in
    found_now c.store.inside.cap (state g.S.Store c.store.inside.conn)
    (state g.S.Store c.select_recording.new.conn) c.args.identity.now c.as_slice.result.now
    c.in_ok-id.id h is
    c.to_bytes.ensures.key (c.in_ok-id.ensures.same clean) (c.in_ok-id.ensures.id clean) kept

pub invariant_of-store : goal.invariant_of-store
invariant_of-store g c = still_sound c.store.inside.cap (state g.S.Store c.store.inside.conn)
    (state g.S.Store c.select_recording.new.conn) _ c.select_recording.ensures.survives
    c.select_recording.ensures.committed c.store.invariant

pub invariant_of-store-2 : goal.invariant_of-store-2
invariant_of-store-2 g c = still_sound c.store.inside.cap (state g.S.Store c.store.inside.conn)
    (state g.S.Store c.select_recording.new.conn) _ c.select_recording.ensures.survives
    c.select_recording.ensures.committed c.store.invariant

pub returns-in_err-bytes-clause-settles : goal.returns-in_err-bytes-clause-settles
returns-in_err-bytes-clause-settles g c = rw (← c.store.view_is) (record {
  stays = stays_same g.S.Store _;
  settled = λ clean. on_refused _ _ c.from_residual.result c.from_residual.ensures.1;
})

pub returns-in_err-id-clause-settles : goal.returns-in_err-id-clause-settles
returns-in_err-id-clause-settles g c = rw (← c.store.view_is) (record {
  stays = stays_so g.S.Store c.store.inside.cap c.store.inside.conn c.select_recording.new.conn
      c.select_recording.ensures.survives c.select_recording.ensures.committed;
  settled = λ clean. on_refused _ _ c.from_residual-in_err-id.result
      c.from_residual-in_err-id.ensures.1;
})

pub returns-clause-settles : goal.returns-clause-settles
returns-clause-settles g c =
    let settled = rw (← c.store.view_is) at c.requires.settled in
    rw (← c.store.view_is) (record {
      stays = stays_so g.S.Store c.store.inside.cap c.store.inside.conn c.select_recording.new.conn
          c.select_recording.ensures.survives c.select_recording.ensures.committed;
      settled = λ clean. still_settled c.store.inside.cap (state g.S.Store c.store.inside.conn)
          (state g.S.Store c.select_recording.new.conn) (c.in_ok-id.ensures.same clean)
          (settled (omega (arith, c.select_recording.ensures.survives.clean)));
    })
