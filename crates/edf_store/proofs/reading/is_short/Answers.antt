use Rattle.std.proofs.Common.{w64, Ok, arith}
use Rattle.std.proofs.lemmas.Int.{to_z-of_z}
use Rattle.sqlite.specs.Held.{state}
use Rattle.sqlite.specs.State.{HasCleanDisk}
use Rattle.sqlite.specs.declared.error.Error.{Error}
use Rattle.edf_store.specs.Held.{StoreModel}
use Rattle.edf_store.specs.Inside.Rows.{ReadsRows}
use Rattle.edf_store.proofs.Held.{still_sound}
use Rattle.edf_store.proofs.Steps.{ready_in}
use Rattle.edf_store.proofs.Readiness.{stays_so, stays_then}
use Rattle.edf_store.proofs.RowReads.{reads_refused, reads_rows, reads_then}
use Rattle.edf_store.proofs.SummaryReads.{still_ready}
use Rattle.edf_store.proofs.Short.{short_read}
use Rattle.edf_store.proofs.reading.is_short.Goals as goal

pub first_start-requires : goal.first_start-requires
first_start-requires g c =
    let mine = rw (← c.store.view_is) at c.requires.recording in
    record {
      ready = λ clean. rw (to_z-of_z w64 c.args.id c.ranges.id)
          (ready_in c.store.inside.cap (state g.S.Store c.store.inside.conn) c.args.id mine.key
          mine.is_of mine.sees clean);
    }

pub last_start-requires : goal.last_start-requires
last_start-requires g c =
    let a = state g.S.Store c.store.inside.conn in
    let b = state g.S.Store c.first_start.new.conn in
    let mine = rw (← c.store.view_is) at c.requires.recording in
    record {
      ready = λ clean.
          let was_clean : HasCleanDisk a = omega (arith, c.first_start.ensures.survives.clean) in
          rw (to_z-of_z w64 c.args.id c.ranges.id)
          (still_ready a b c.args.id (c.in_ok-first.ensures.same clean)
          (ready_in c.store.inside.cap a c.args.id mine.key mine.is_of mine.sees was_clean));
    }

pub invariant_of-store : goal.invariant_of-store
invariant_of-store g c = still_sound c.store.inside.cap (state g.S.Store c.store.inside.conn)
    (state g.S.Store c.first_start.new.conn) _ c.first_start.ensures.survives
    c.first_start.ensures.committed c.store.invariant

pub invariant_of-store-in_err-last : goal.invariant_of-store-in_err-last
invariant_of-store-in_err-last g c =
    still_sound c.store.inside.cap (state g.S.Store c.first_start.new.conn)
    (state g.S.Store c.last_start.new.conn) _ c.last_start.ensures.survives
    c.last_start.ensures.committed
    (still_sound c.store.inside.cap (state g.S.Store c.store.inside.conn)
    (state g.S.Store c.first_start.new.conn) _ c.first_start.ensures.survives
    c.first_start.ensures.committed c.store.invariant)

pub invariant_of-store-2 : goal.invariant_of-store-2
invariant_of-store-2 g c =
    still_sound c.store.inside.cap (state g.S.Store c.first_start.new.conn)
    (state g.S.Store c.last_start.new.conn) _ c.last_start.ensures.survives
    c.last_start.ensures.committed
    (still_sound c.store.inside.cap (state g.S.Store c.store.inside.conn)
    (state g.S.Store c.first_start.new.conn) _ c.first_start.ensures.survives
    c.first_start.ensures.committed c.store.invariant)

pub returns-in_err-first-clause-reads : goal.returns-in_err-first-clause-reads
returns-in_err-first-clause-reads g c =
    rw (← c.store.view_is) (reads_refused g.S.Store _ _ _ _ c.from_residual.ensures.1
    (stays_so g.S.Store c.store.inside.cap c.store.inside.conn c.first_start.new.conn
    c.first_start.ensures.survives c.first_start.ensures.committed))

pub returns-in_err-last-clause-reads : goal.returns-in_err-last-clause-reads
returns-in_err-last-clause-reads g c =
    let cap = c.store.inside.cap in
    let a : StoreModel g.row.S.Denot = record { connection = c.store.inside.conn; cap = cap } in
    let b : StoreModel g.row.S.Denot = record { connection = c.first_start.new.conn; cap = cap } in
    let d : StoreModel g.row.S.Denot = record { connection = c.last_start.new.conn; cap = cap } in
    rw (← c.store.view_is) (reads_refused g.S.Store _ _ _ _ c.from_residual-in_err-last.ensures.1
    (stays_then g.S.Store a b d (stays_so g.S.Store cap a.connection b.connection
    c.first_start.ensures.survives c.first_start.ensures.committed)
    (stays_so g.S.Store cap b.connection d.connection c.last_start.ensures.survives
    c.last_start.ensures.committed)))

pub returns-clause-reads : goal.returns-clause-reads
returns-clause-reads g c =
    let cap = c.store.inside.cap in
    let a : StoreModel g.row.S.Denot = record { connection = c.store.inside.conn; cap = cap } in
    let b : StoreModel g.row.S.Denot = record { connection = c.first_start.new.conn; cap = cap } in
    let d : StoreModel g.row.S.Denot = record { connection = c.last_start.new.conn; cap = cap } in
    let mine = rw (← c.store.view_is) at c.requires.recording in
    let one : ReadsRows g.S.Store {E = Error} a b (Ok c.in_ok-first.first) =
    reads_rows g.S.Store cap a.connection b.connection _ c.first_start.ensures.survives
    c.first_start.ensures.committed c.in_ok-first.ensures.same mine.sees in
    let two : ReadsRows g.S.Store {E = Error} b d (Ok c.in_ok-last.last) =
    reads_rows g.S.Store cap b.connection d.connection _ c.last_start.ensures.survives
    c.last_start.ensures.committed c.in_ok-last.ensures.same one.same.running in
    rw (← c.store.view_is) (reads_then g.S.Store a b d _ _ _ one two)

pub returns-clause-short : goal.returns-clause-short
returns-clause-short g c clean =
    let cap = c.store.inside.cap in
    let a = state g.S.Store c.store.inside.conn in
    let b = state g.S.Store c.first_start.new.conn in
    let d = state g.S.Store c.last_start.new.conn in
    let size = to_z-of_z w64 c.args.id c.ranges.id in
    let mine = rw (← c.store.view_is) at c.requires.recording in
    rw (← c.store.view_is) (λ said h q seen under.
    let it = c.lie_within.ensures said in
    short_read cap a b d c.args.id c.in_ok-first.first c.in_ok-last.last
    c.first_start.ensures.survives c.last_start.ensures.survives c.in_ok-first.ensures.same
    (λ w. rw size at (c.in_ok-first.ensures.first w))
    (λ w. rw size at (c.in_ok-last.ensures.last w)) clean
    c.args.duration c.args.most mine.key q mine.is_of mine.lasts it.0 it.1 it.2 it.3 it.4 h seen
    under)
