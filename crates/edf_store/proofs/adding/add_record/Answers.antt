use Rattle.std.proofs.Common.{◌≡◌, pos, rules, w64}
use Rattle.std.proofs.lemmas.Int.{to_z-of_z}
use Rattle.sqlite.specs.Held.{state}
use Rattle.sqlite.specs.State.{HasCleanDisk}
use Rattle.edf_tal.specs.Canonical.{tals_text}
use Rattle.edf_tables.specs.Row.{cells, HasRecord}
use Rattle.edf_tables.proofs.Held.{record_keeps}
use Rattle.edf_store.proofs.Begun.{stays_same}
use Rattle.edf_store.proofs.Readiness.{stays_so}
use Rattle.edf_store.proofs.Decoding.{start_fits}
use Rattle.edf_store.proofs.Held.{still_sound}
use Rattle.edf_store.proofs.Steps.{added_in}
use Rattle.edf_store.proofs.adding.add_record.Goals as goal

pub invariant_of-store : goal.invariant_of-store
invariant_of-store g c = still_sound c.store.inside.cap (state g.S.Store c.store.inside.conn)
    (state g.S.Store c.insert_record.new.conn) _ c.insert_record.ensures.survives
    c.in_err-insert_record.ensures.refused c.store.invariant

pub invariant_of-store-2 : goal.invariant_of-store-2
invariant_of-store-2 g c =
    still_sound c.store.inside.cap (state g.S.Store c.store.inside.conn)
    (state g.S.Store c.insert_record.new.conn) _ c.insert_record.ensures.survives
    (λ clean. record_keeps (state g.S.Store c.store.inside.conn)
    (state g.S.Store c.insert_record.new.conn) _ (c.in_ok-insert_record.ensures.added clean))
    c.store.invariant

pub returns-clause-added : goal.returns-clause-added
returns-clause-added g c =
    let old = state g.S.Store c.store.inside.conn in
    let new = state g.S.Store c.insert_record.new.conn in
    let r = c.args.data_record.now in
    let sees = rw (← c.store.view_is) at c.requires.sees in
    let spare = rw (← c.store.view_is) at c.requires.spare in
    let start : c.start_of-start.result ≡ pos r.start = search rules in
    let block : c.as_slice.result.now ≡ tals_text 0 r.start r.annotations = search rules in
    let has : HasCleanDisk new →
    HasRecord old new (cells c.args.id (pos r.start) r.samples
    (tals_text 0 r.start r.annotations)) =
    λ clean. rw (
      to_z-of_z w64 c.args.id c.ranges.id,
      start,
      start_fits r.start spare.sound.start,
      c.samples.ensures.value,
      block,
    ) at (c.in_ok-insert_record.ensures.added clean) in
    rw (← c.store.view_is) (added_in c.store.inside.cap old new _ c.insert_record.ensures.survives
    c.args.id r has spare sees)

pub returns-in_err-insert_record-clause-stays : goal.returns-in_err-insert_record-clause-stays
returns-in_err-insert_record-clause-stays g c =
    rw (← c.store.view_is) (stays_so g.S.Store c.store.inside.cap c.store.inside.conn
    c.insert_record.new.conn c.insert_record.ensures.survives
    c.in_err-insert_record.ensures.refused)

pub returns-clause-stays : goal.returns-clause-stays
returns-clause-stays g c =
    rw (← c.store.view_is) (stays_so g.S.Store c.store.inside.cap c.store.inside.conn
    c.insert_record.new.conn c.insert_record.ensures.survives
    (λ clean. record_keeps (state g.S.Store c.store.inside.conn)
    (state g.S.Store c.insert_record.new.conn) _ (c.in_ok-insert_record.ensures.added clean)))

pub returns-in_err-block-clause-stays : goal.returns-in_err-block-clause-stays
returns-in_err-block-clause-stays g c = rw (← c.store.view_is) (stays_same g.S.Store _)
