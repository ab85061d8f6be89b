use Rattle.std.proofs.Common.{rules, w64}
use Rattle.std.proofs.lemmas.Int.{to_z-of_z}
use Rattle.sqlite.specs.Held.{state}
use Rattle.edf_store.proofs.Readiness.{stays_so}
use Rattle.edf_store.proofs.Held.{still_sound}
use Rattle.edf_store.proofs.RowReads.{reads_refused, reads_rows}
use Rattle.edf_store.proofs.Steps.{count_is}
use Rattle.edf_store.proofs.reading.count_records.Goals as goal

pub invariant_of-store : goal.invariant_of-store
invariant_of-store g c = still_sound c.store.inside.cap (state g.S.Store c.store.inside.conn)
    (state g.S.Store c.count_rows.new.conn) _ c.count_rows.ensures.survives
    c.count_rows.ensures.committed c.store.invariant

pub invariant_of-store-in_default : goal.invariant_of-store-in_default
invariant_of-store-in_default g c =
    still_sound c.store.inside.cap (state g.S.Store c.store.inside.conn)
    (state g.S.Store c.count_rows.new.conn) _ c.count_rows.ensures.survives
    c.count_rows.ensures.committed c.store.invariant

pub invariant_of-store-2 : goal.invariant_of-store-2
invariant_of-store-2 g c = still_sound c.store.inside.cap (state g.S.Store c.store.inside.conn)
    (state g.S.Store c.count_rows.new.conn) _ c.count_rows.ensures.survives
    c.count_rows.ensures.committed c.store.invariant

pub returns-clause-count : goal.returns-clause-count
returns-clause-count g c clean =
    let size = rw (to_z-of_z w64 c.args.id c.ranges.id) at (c.in_ok-count.ensures.count clean) in
    rw (← c.store.view_is) (count_is c.store.inside.cap (state g.S.Store c.store.inside.conn)
    (state g.S.Store c.count_rows.new.conn) _ c.count_rows.ensures.survives c.args.id
    c.in_ok-count.count c.in-Ok.count clean c.store.invariant.cap_to size (search rules))

pub returns-in_err-count-clause-reads : goal.returns-in_err-count-clause-reads
returns-in_err-count-clause-reads g c =
    rw (← c.store.view_is) (reads_refused g.S.Store _ _ _ _ c.from_residual.ensures.1
    (stays_so g.S.Store c.store.inside.cap c.store.inside.conn c.count_rows.new.conn
    c.count_rows.ensures.survives c.count_rows.ensures.committed))

pub returns-in_default-clause-reads : goal.returns-in_default-clause-reads
returns-in_default-clause-reads g c = rw (← c.store.view_is) (record {
  stays = stays_so g.S.Store c.store.inside.cap c.store.inside.conn c.count_rows.new.conn
      c.count_rows.ensures.survives c.count_rows.ensures.committed;
  same = tt;
  only = tt;
})

pub returns-clause-reads : goal.returns-clause-reads
returns-clause-reads g c =
    let recording = rw (← c.store.view_is) at c.requires.recording in
    rw (← c.store.view_is) (reads_rows g.S.Store c.store.inside.cap c.store.inside.conn
    c.count_rows.new.conn _ c.count_rows.ensures.survives c.count_rows.ensures.committed
    c.in_ok-count.ensures.same recording.sees)
