use Rattle.std.proofs.Common.{arith, ◌∙◌}
use Rattle.sqlite.specs.Held.{state}
use Rattle.sqlite.specs.State.{HasCleanDisk}
use Rattle.edf_store.proofs.Readiness.{named_apart, held_now, stays_so}
use Rattle.edf_store.proofs.Faults.{on_ok, on_refused, match_cases}
use Rattle.edf_store.proofs.KeysRead.{keys_read, identities_of_keys}
use Rattle.edf_store.proofs.summaries.list.Goals as goal

pub identities-requires : goal.identities-requires
identities-requires g c =
    let settled = rw (← c.store.view_is) at c.requires.settled in
    record {
      apart = λ clean. named_apart c.store.inside.cap (state g.S.Store c.store.inside.conn)
          (settled clean);
    }

pub returns-in_err-all-clause-changes : goal.returns-in_err-all-clause-changes
returns-in_err-all-clause-changes g c = rw (← c.store.view_is) (record {
  stays = stays_so g.S.Store c.store.inside.cap c.store.inside.conn c.identities.new.conn
      c.identities.ensures.survives c.identities.ensures.committed;
  idle = λ clean. on_refused _ _ c.from_residual.result c.from_residual.ensures.1;
})

pub returns-clause-changes : goal.returns-clause-changes
returns-clause-changes g c =
    let a = state g.S.Store c.store.inside.conn in
    let settled = rw (← c.store.view_is) at c.requires.settled in
    rw (← c.store.view_is) (record {
      stays = stays_so g.S.Store c.store.inside.cap c.store.inside.conn c.identities.new.conn
          c.identities.ensures.survives c.identities.ensures.committed;
      idle = λ clean.
          let was_clean : HasCleanDisk a = omega (arith, c.identities.ensures.survives.clean) in
          on_ok c.identities_in.result ((c.in_ok-all.ensures.same clean).0.mode
          ∙ (settled was_clean).idle);
    })

pub returns-clause-keys : goal.returns-clause-keys
returns-clause-keys g c clean =
    let cap = c.store.inside.cap in
    let a = state g.S.Store c.store.inside.conn in
    let settled = rw (← c.store.view_is) at c.requires.settled in
    let was_clean : HasCleanDisk a = omega (arith, c.identities.ensures.survives.clean) in
    let it = settled was_clean in
    let rows = c.in_ok-all.ensures.identities clean in
    rw (← c.store.view_is)
    (match_cases _ _ c.identities_in.result
    (λ found is h held. keys_read cap a.now.trees h c.in_ok-all.all.items found.items
    (held_now cap a was_clean it h held) rows (rw is at c.identities_in.ensures.read)
    (rw is at c.identities_in.ensures.keys))
    (λ e is. (rw is at c.identities_in.ensures.ours)
    (identities_of_keys a.now.trees it.holdings.0 c.in_ok-all.all.items it.holdings.1.stand
    rows)))
