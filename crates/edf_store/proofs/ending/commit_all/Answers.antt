use Rattle.std.proofs.Common.{rules}
use Rattle.sqlite.specs.Held.{state}
use Rattle.edf_store.proofs.Faults.{on_refused, on_err}
use Rattle.edf_store.proofs.Held.{still_sound, still_held, committed_others, refused_others}
use Rattle.edf_store.proofs.Steps.{committed_held, committed_sound, seen_survives}
use Rattle.edf_store.proofs.ending.commit_all.Goals as goal

pub invariant_of-store : goal.invariant_of-store
invariant_of-store g c = still_sound c.store.inside.cap (state g.S.Store c.store.inside.conn)
    (state g.S.Store c.commit.new.conn) _ c.commit.ensures.survives c.in_err-commit.ensures.refused
    c.store.invariant

pub invariant_of-store-2 : goal.invariant_of-store-2
invariant_of-store-2 g c =
    let whole = rw (← c.store.view_is) at c.requires.whole in
    let sees = rw (← c.store.view_is) at c.requires.sees in
    committed_sound c.store.inside.cap (state g.S.Store c.store.inside.conn)
    (state g.S.Store c.commit.new.conn) _ c.commit.ensures.survives
    c.in_ok-commit.ensures.committed whole sees c.store.invariant

pub returns-in_err-commit : goal.returns-in_err-commit
returns-in_err-commit g c =
    let cap = c.store.inside.cap in
    let old = state g.S.Store c.store.inside.conn in
    let new = state g.S.Store c.commit.new.conn in
    let whole = rw (← c.store.view_is) at c.requires.whole in
    let sees = rw (← c.store.view_is) at c.requires.sees in
    rw (← c.store.view_is) (record {
      cap = search rules;
      committed = on_refused _ _ c.from_residual.result c.from_residual.ensures.1;
      refused = on_err c.from_residual.result
          (still_held cap old new _ c.commit.ensures.survives c.in_err-commit.ensures.refused);
      others = refused_others cap old new c.commit.ensures.survives sees
          c.in_err-commit.ensures.refused;
      survives = seen_survives cap old new c.commit.ensures.survives whole;
      ended = c.commit.ensures.ended;
      is_open = λ clean. on_refused _ _ c.from_residual.result c.from_residual.ensures.1;
    })

pub returns : goal.returns
returns g c =
    let cap = c.store.inside.cap in
    let old = state g.S.Store c.store.inside.conn in
    let new = state g.S.Store c.commit.new.conn in
    let whole = rw (← c.store.view_is) at c.requires.whole in
    let sees = rw (← c.store.view_is) at c.requires.sees in
    rw (← c.store.view_is) (record {
      cap = search rules;
      committed = committed_held cap old new _ c.commit.ensures.survives
          c.in_ok-commit.ensures.committed whole;
      refused = tt;
      others = committed_others cap old new c.commit.ensures.survives sees
          c.in_ok-commit.ensures.committed;
      survives = seen_survives cap old new c.commit.ensures.survives whole;
      ended = c.commit.ensures.ended;
      is_open = λ clean. (c.in_ok-commit.ensures.committed clean).is_open;
    })
