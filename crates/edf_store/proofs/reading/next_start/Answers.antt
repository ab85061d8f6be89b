use Rattle.std.proofs.Common.{w64, arith}
use Rattle.std.proofs.lemmas.Int.{to_z-of_z}
use Rattle.sqlite.specs.Held.{state}
use Rattle.edf_store.proofs.Decoding.{nat_fits}
use Rattle.edf_store.proofs.Held.{still_sound}
use Rattle.edf_store.proofs.Readiness.{stays_so}
use Rattle.edf_store.proofs.RowReads.{reads_refused, reads_rows}
use Rattle.edf_store.proofs.Steps.{ready_in}
use Rattle.edf_store.proofs.Faults.{match_both}
use Rattle.edf_store.proofs.Next.{next_is, next_reads}
use Rattle.edf_store.proofs.reading.next_start.Goals as goal

pub next_start-requires : goal.next_start-requires
next_start-requires g c =
    let mine = rw (← c.store.view_is) at c.requires.recording in
    record {
      ready = λ clean. rw (to_z-of_z w64 c.args.id c.ranges.id)
          (ready_in c.store.inside.cap (state g.S.Store c.store.inside.conn) c.args.id mine.key
          mine.is_of mine.sees clean);
    }

pub invariant_of-store : goal.invariant_of-store
invariant_of-store g c = still_sound c.store.inside.cap (state g.S.Store c.store.inside.conn)
    (state g.S.Store c.next_start.new.conn) _ c.next_start.ensures.survives
    c.next_start.ensures.committed c.store.invariant

pub invariant_of-store-2 : goal.invariant_of-store-2
invariant_of-store-2 g c = still_sound c.store.inside.cap (state g.S.Store c.store.inside.conn)
    (state g.S.Store c.next_start.new.conn) _ c.next_start.ensures.survives
    c.next_start.ensures.committed c.store.invariant

pub returns-in_err-next-clause-reads : goal.returns-in_err-next-clause-reads
returns-in_err-next-clause-reads g c =
    rw (← c.store.view_is) (reads_refused g.S.Store _ _ _ _ c.from_residual.ensures.1
    (stays_so g.S.Store c.store.inside.cap c.store.inside.conn c.next_start.new.conn
    c.next_start.ensures.survives c.next_start.ensures.committed))

pub returns-clause-reads : goal.returns-clause-reads
returns-clause-reads g c =
    let mine = rw (← c.store.view_is) at c.requires.recording in
    rw (← c.store.view_is) (reads_rows g.S.Store c.store.inside.cap c.store.inside.conn
    c.next_start.new.conn c.start_in.result c.next_start.ensures.survives
    c.next_start.ensures.committed c.in_ok-next.ensures.same mine.sees)

pub returns-clause-next : goal.returns-clause-next
returns-clause-next g c clean =
    let cap = c.store.inside.cap in
    let old = state g.S.Store c.store.inside.conn in
    let new = state g.S.Store c.next_start.new.conn in
    let from = c.nanos.result in
    let low = c.nanos.ensures.bound in
    let mine = rw (← c.store.view_is) at c.requires.recording in
    let rows = rw (to_z-of_z w64 c.args.id c.ranges.id, nat_fits from (omega (arith, low))) at
    (c.in_ok-next.ensures.next clean) in
    rw (← c.store.view_is, ← c.nanos.ensures.value)
    (match_both c.start_in.result _ _ _ _ c.start_in.ensures.read c.start_in.ensures.foreign
    (λ start is. next_is cap old new _ c.next_start.ensures.survives c.args.id from
    c.in_ok-next.next clean rows start is)
    (λ e own. absurd (next_reads cap old new _ c.next_start.ensures.survives c.args.id from
    c.in_ok-next.next clean rows mine.key mine.is_of mine.sees own.0 own.1)))
