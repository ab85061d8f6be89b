use Rattle.std.proofs.Common.{w64, arith, ◌∙◌}
use Rattle.std.proofs.lemmas.Int.{to_z-of_z}
use Rattle.sqlite.specs.Held.{state}
use Rattle.sqlite.specs.State.{HasCleanDisk}
use Rattle.edf_tables.proofs.Commits.{quiet_then}
use Rattle.edf_tables.proofs.Keeping.{keeps_then}
use Rattle.edf_store.proofs.Held.{still_sound}
use Rattle.edf_store.proofs.Readiness.{stays_so, three_survive, three_keep}
use Rattle.edf_store.proofs.SummaryReads.{ready_at, still_ready, summary_read, bounds_read}
use Rattle.edf_store.proofs.Faults.{on_ok, on_refused, match_both}
use Rattle.edf_store.proofs.summaries.summary_of.Goals as goal

pub first_start-requires : goal.first_start-requires
first_start-requires g c =
    let a = state g.S.Store c.store.inside.conn in
    let b = state g.S.Store c.count_rows.new.conn in
    let settled = rw (← c.store.view_is) at c.requires.settled in
    let there = rw (← c.store.view_is) at c.requires.there in
    record {
      ready = λ clean.
          let was_clean : HasCleanDisk a = omega (arith, c.count_rows.ensures.survives.clean) in
          rw (to_z-of_z w64 c.args.id c.ranges.id)
          (still_ready a b c.args.id (c.in_ok-count.ensures.same clean)
          (ready_at c.store.inside.cap a c.args.id (there was_clean).0 (settled was_clean)
          (there was_clean).1));
    }

pub last_start-requires : goal.last_start-requires
last_start-requires g c =
    let a = state g.S.Store c.store.inside.conn in
    let b = state g.S.Store c.count_rows.new.conn in
    let d = state g.S.Store c.first_start.new.conn in
    let settled = rw (← c.store.view_is) at c.requires.settled in
    let there = rw (← c.store.view_is) at c.requires.there in
    record {
      ready = λ clean.
          let clean_b : HasCleanDisk b = omega (arith, c.first_start.ensures.survives.clean) in
          let was_clean : HasCleanDisk a = omega (
            arith,
            c.count_rows.ensures.survives.clean,
            clean_b,
          ) in
          rw (to_z-of_z w64 c.args.id c.ranges.id)
          (still_ready b d c.args.id (c.in_ok-first.ensures.same clean)
          (still_ready a b c.args.id (c.in_ok-count.ensures.same clean_b)
          (ready_at c.store.inside.cap a c.args.id (there was_clean).0 (settled was_clean)
          (there was_clean).1)));
    }

pub returns-in_err-count-clause-changes : goal.returns-in_err-count-clause-changes
returns-in_err-count-clause-changes g c = rw (← c.store.view_is) (record {
  stays = stays_so g.S.Store c.store.inside.cap c.store.inside.conn c.count_rows.new.conn
      c.count_rows.ensures.survives c.count_rows.ensures.committed;
  idle = λ clean. on_refused _ _ c.from_residual.result c.from_residual.ensures.1;
})

pub returns-in_err-first-clause-changes : goal.returns-in_err-first-clause-changes
returns-in_err-first-clause-changes g c =
    let a = state g.S.Store c.store.inside.conn in
    let b = state g.S.Store c.count_rows.new.conn in
    let d = state g.S.Store c.first_start.new.conn in
    rw (← c.store.view_is) (record {
      stays = stays_so g.S.Store c.store.inside.cap c.store.inside.conn c.first_start.new.conn
          (quiet_then a b d _ c.count_rows.ensures.survives c.first_start.ensures.survives)
          (λ clean. keeps_then a b d (c.count_rows.ensures.committed
          (omega (arith, c.first_start.ensures.survives.clean)))
          (c.first_start.ensures.committed clean));
      idle = λ clean. on_refused _ _ c.from_residual-in_err-first.result
          c.from_residual-in_err-first.ensures.1;
    })

pub returns-in_err-last-clause-changes : goal.returns-in_err-last-clause-changes
returns-in_err-last-clause-changes g c =
    let a = state g.S.Store c.store.inside.conn in
    let b = state g.S.Store c.count_rows.new.conn in
    let d = state g.S.Store c.first_start.new.conn in
    let e = state g.S.Store c.last_start.new.conn in
    rw (← c.store.view_is) (record {
      stays = stays_so g.S.Store c.store.inside.cap c.store.inside.conn c.last_start.new.conn
          (three_survive a b d e c.count_rows.ensures.survives c.first_start.ensures.survives
          c.last_start.ensures.survives c.count_rows.ensures.committed
          c.first_start.ensures.committed c.last_start.ensures.committed)
          (three_keep a b d e c.count_rows.ensures.survives c.first_start.ensures.survives
          c.last_start.ensures.survives c.count_rows.ensures.committed
          c.first_start.ensures.committed c.last_start.ensures.committed);
      idle = λ clean. on_refused _ _ c.from_residual-in_err-last.result
          c.from_residual-in_err-last.ensures.1;
    })

pub returns-clause-changes : goal.returns-clause-changes
returns-clause-changes g c =
    let a = state g.S.Store c.store.inside.conn in
    let b = state g.S.Store c.count_rows.new.conn in
    let d = state g.S.Store c.first_start.new.conn in
    let e = state g.S.Store c.last_start.new.conn in
    let settled = rw (← c.store.view_is) at c.requires.settled in
    rw (← c.store.view_is) (record {
      stays = stays_so g.S.Store c.store.inside.cap c.store.inside.conn c.last_start.new.conn
          (three_survive a b d e c.count_rows.ensures.survives c.first_start.ensures.survives
          c.last_start.ensures.survives c.count_rows.ensures.committed
          c.first_start.ensures.committed c.last_start.ensures.committed)
          (three_keep a b d e c.count_rows.ensures.survives c.first_start.ensures.survives
          c.last_start.ensures.survives c.count_rows.ensures.committed
          c.first_start.ensures.committed c.last_start.ensures.committed);
      idle = λ clean.
          let clean_d : HasCleanDisk d = omega (arith, c.last_start.ensures.survives.clean) in
          let clean_b : HasCleanDisk b = omega (
            arith,
            c.first_start.ensures.survives.clean,
            clean_d,
          ) in
          let was_clean : HasCleanDisk a = omega (
            arith,
            c.count_rows.ensures.survives.clean,
            clean_b,
          ) in
          on_ok c.summary_from.result ((c.in_ok-last.ensures.same clean).0.mode
          ∙ ((c.in_ok-first.ensures.same clean_d).0.mode
          ∙ ((c.in_ok-count.ensures.same clean_b).0.mode ∙ (settled was_clean).idle)));
    })

pub returns-clause-summary : goal.returns-clause-summary
returns-clause-summary g c clean =
    let cap = c.store.inside.cap in
    let a = state g.S.Store c.store.inside.conn in
    let b = state g.S.Store c.count_rows.new.conn in
    let d = state g.S.Store c.first_start.new.conn in
    let e = state g.S.Store c.last_start.new.conn in
    let size = to_z-of_z w64 c.args.id c.ranges.id in
    let settled = rw (← c.store.view_is) at c.requires.settled in
    let there = rw (← c.store.view_is) at c.requires.there in
    rw (← c.store.view_is)
    (match_both c.summary_from.result _ _ _ _ c.summary_from.ensures.summary
    c.summary_from.ensures.ours
    (λ summary is.
    summary_read cap a b d e c.args.id c.in_ok-count.count c.in_ok-first.first
    c.in_ok-last.last c.store.invariant.cap_to settled
    c.count_rows.ensures.survives c.first_start.ensures.survives c.last_start.ensures.survives
    c.in_ok-count.ensures.same c.in_ok-first.ensures.same
    (λ clean. rw size at (c.in_ok-count.ensures.count clean))
    (λ clean. rw size at (c.in_ok-first.ensures.first clean))
    (λ clean. rw size at (c.in_ok-last.ensures.last clean)) clean summary is)
    (λ fault ours.
    bounds_read cap a b d e c.args.id c.in_ok-count.count c.in_ok-first.first
    c.in_ok-last.last c.store.invariant.cap_to settled
    c.count_rows.ensures.survives c.first_start.ensures.survives c.last_start.ensures.survives
    c.in_ok-count.ensures.same c.in_ok-first.ensures.same
    (λ clean. rw size at (c.in_ok-count.ensures.count clean))
    (λ clean. rw size at (c.in_ok-first.ensures.first clean))
    (λ clean. rw size at (c.in_ok-last.ensures.last clean)) clean there _ ours))

pub invariant_of-store : goal.invariant_of-store
invariant_of-store g c = still_sound c.store.inside.cap (state g.S.Store c.store.inside.conn)
    (state g.S.Store c.count_rows.new.conn) _ c.count_rows.ensures.survives
    c.count_rows.ensures.committed c.store.invariant

pub invariant_of-store-in_err-first : goal.invariant_of-store-in_err-first
invariant_of-store-in_err-first g c =
    let a = state g.S.Store c.store.inside.conn in
    let b = state g.S.Store c.count_rows.new.conn in
    let d = state g.S.Store c.first_start.new.conn in
    still_sound c.store.inside.cap a d _
    (quiet_then a b d _ c.count_rows.ensures.survives c.first_start.ensures.survives)
    (λ clean. keeps_then a b d (c.count_rows.ensures.committed
    (omega (arith, c.first_start.ensures.survives.clean))) (c.first_start.ensures.committed clean))
    c.store.invariant

pub invariant_of-store-in_err-last : goal.invariant_of-store-in_err-last
invariant_of-store-in_err-last g c =
    let a = state g.S.Store c.store.inside.conn in
    let b = state g.S.Store c.count_rows.new.conn in
    let d = state g.S.Store c.first_start.new.conn in
    let e = state g.S.Store c.last_start.new.conn in
    still_sound c.store.inside.cap a e _
    (three_survive a b d e c.count_rows.ensures.survives c.first_start.ensures.survives
    c.last_start.ensures.survives c.count_rows.ensures.committed c.first_start.ensures.committed
    c.last_start.ensures.committed)
    (three_keep a b d e c.count_rows.ensures.survives c.first_start.ensures.survives
    c.last_start.ensures.survives c.count_rows.ensures.committed c.first_start.ensures.committed
    c.last_start.ensures.committed) c.store.invariant

pub invariant_of-store-2 : goal.invariant_of-store-2
invariant_of-store-2 g c =
    let a = state g.S.Store c.store.inside.conn in
    let b = state g.S.Store c.count_rows.new.conn in
    let d = state g.S.Store c.first_start.new.conn in
    let e = state g.S.Store c.last_start.new.conn in
    still_sound c.store.inside.cap a e _
    (three_survive a b d e c.count_rows.ensures.survives c.first_start.ensures.survives
    c.last_start.ensures.survives c.count_rows.ensures.committed c.first_start.ensures.committed
    c.last_start.ensures.committed)
    (three_keep a b d e c.count_rows.ensures.survives c.first_start.ensures.survives
    c.last_start.ensures.survives c.count_rows.ensures.committed c.first_start.ensures.committed
    c.last_start.ensures.committed) c.store.invariant
