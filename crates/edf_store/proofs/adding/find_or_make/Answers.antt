use Rattle.std.proofs.Common.{◌≡◌, None, rules, w64, arith}
use Rattle.std.proofs.lemmas.Int.{to_z-of_z}
use Rattle.sqlite.specs.Held.{state}
use Rattle.edf_header.specs.Key.{key_bytes}
use Rattle.edf_tables.proofs.Commits.{quiet_then}
use Rattle.edf_tables.proofs.Keeping.{keeps_then}
use Rattle.edf_store.proofs.Begun.{stays_same}
use Rattle.edf_store.proofs.Held.{still_sound}
use Rattle.edf_store.proofs.Readiness.{stays_so}
use Rattle.edf_store.proofs.Steps.{is_found, is_made, made_keeps}
use Rattle.edf_store.proofs.adding.find_or_make.Goals as goal

pub returns-in_err-bytes-clause-stays : goal.returns-in_err-bytes-clause-stays
returns-in_err-bytes-clause-stays g c = rw (← c.store.view_is) (stays_same g.S.Store _)

pub returns-in_err-id-clause-stays : goal.returns-in_err-id-clause-stays
returns-in_err-id-clause-stays g c =
    rw (← c.store.view_is) (stays_so g.S.Store c.store.inside.cap c.store.inside.conn
    c.select_recording.new.conn c.select_recording.ensures.survives
    c.select_recording.ensures.committed)

pub invariant_of-store : goal.invariant_of-store
invariant_of-store g c =
    still_sound c.store.inside.cap (state g.S.Store c.store.inside.conn)
    (state g.S.Store c.select_recording.new.conn) _ c.select_recording.ensures.survives
    c.select_recording.ensures.committed c.store.invariant

pub invariant_of-store-in-Some : goal.invariant_of-store-in-Some
invariant_of-store-in-Some g c =
    still_sound c.store.inside.cap (state g.S.Store c.store.inside.conn)
    (state g.S.Store c.select_recording.new.conn) _ c.select_recording.ensures.survives
    c.select_recording.ensures.committed c.store.invariant

pub returns-in-Some-clause-stays : goal.returns-in-Some-clause-stays
returns-in-Some-clause-stays g c =
    rw (← c.store.view_is) (stays_so g.S.Store c.store.inside.cap c.store.inside.conn
    c.select_recording.new.conn c.select_recording.ensures.survives
    c.select_recording.ensures.committed)

pub returns-in-Some-clause-row_id : goal.returns-in-Some-clause-row_id
returns-in-Some-clause-row_id g c =
    let sees = rw (← c.store.view_is) at c.requires.sees in
    rw (to_z-of_z w64 c.in-Some.id (search rules), ← c.store.view_is)
    (is_found c.store.inside.cap (state g.S.Store c.store.inside.conn)
    (state g.S.Store c.select_recording.new.conn) c.in-Some.id c.args.identity.now
    c.as_slice.result.now (search rules)
    c.to_bytes.ensures.key c.select_recording.ensures.survives c.in_ok-id.ensures.same sees
    (λ clean. rw c.in-Some.is at (c.in_ok-id.ensures.id clean)))

pub invariant_of-store-in_err-id-2 : goal.invariant_of-store-in_err-id-2
invariant_of-store-in_err-id-2 g c =
    let a = state g.S.Store c.store.inside.conn in
    let b = state g.S.Store c.select_recording.new.conn in
    let d = state g.S.Store c.insert_recording.new.conn in
    still_sound c.store.inside.cap a d _
    (quiet_then a b d _ c.select_recording.ensures.survives c.insert_recording.ensures.survives)
    (λ clean. keeps_then a b d (c.select_recording.ensures.committed
    (omega (arith, c.insert_recording.ensures.survives.clean)))
    (c.in_err-id-2.ensures.refused clean)) c.store.invariant

pub returns-in_err-id-2-clause-stays : goal.returns-in_err-id-2-clause-stays
returns-in_err-id-2-clause-stays g c =
    let a = state g.S.Store c.store.inside.conn in
    let b = state g.S.Store c.select_recording.new.conn in
    let d = state g.S.Store c.insert_recording.new.conn in
    rw (← c.store.view_is) (stays_so g.S.Store c.store.inside.cap c.store.inside.conn
    c.insert_recording.new.conn (quiet_then a b d _ c.select_recording.ensures.survives
    c.insert_recording.ensures.survives)
    (λ clean. keeps_then a b d (c.select_recording.ensures.committed
    (omega (arith, c.insert_recording.ensures.survives.clean)))
    (c.in_err-id-2.ensures.refused clean)))

pub invariant_of-store-2 : goal.invariant_of-store-2
invariant_of-store-2 g c =
    let a = state g.S.Store c.store.inside.conn in
    let b = state g.S.Store c.select_recording.new.conn in
    let d = state g.S.Store c.insert_recording.new.conn in
    let k = c.args.identity.now in
    let sees = rw (← c.store.view_is) at c.requires.sees in
    let is : c.as_slice.result.now ≡ key_bytes k = search rules in
    let none : c.in_ok-id.field-0 ≡ None = search rules in
    let again : c.as_slice-2.result.now ≡ c.as_slice.result.now = search rules in
    still_sound c.store.inside.cap a d _
    (quiet_then a b d _ c.select_recording.ensures.survives c.insert_recording.ensures.survives)
    (made_keeps c.store.inside.cap a b c.in_ok-id-2.id k c.as_slice.result.now is
    c.to_bytes.ensures.key c.select_recording.ensures.survives c.in_ok-id.ensures.same sees d
    c.insert_recording.ensures.survives (λ clean. rw none at (c.in_ok-id.ensures.id clean))
    (λ clean. rw again at (c.in_ok-id-2.ensures.added clean)))
    c.store.invariant

pub returns-clause-stays : goal.returns-clause-stays
returns-clause-stays g c =
    let a = state g.S.Store c.store.inside.conn in
    let b = state g.S.Store c.select_recording.new.conn in
    let d = state g.S.Store c.insert_recording.new.conn in
    let k = c.args.identity.now in
    let sees = rw (← c.store.view_is) at c.requires.sees in
    let is : c.as_slice.result.now ≡ key_bytes k = search rules in
    let none : c.in_ok-id.field-0 ≡ None = search rules in
    let again : c.as_slice-2.result.now ≡ c.as_slice.result.now = search rules in
    rw (← c.store.view_is) (stays_so g.S.Store c.store.inside.cap c.store.inside.conn
    c.insert_recording.new.conn (quiet_then a b d _ c.select_recording.ensures.survives
    c.insert_recording.ensures.survives)
    (made_keeps c.store.inside.cap a b c.in_ok-id-2.id k c.as_slice.result.now is
    c.to_bytes.ensures.key c.select_recording.ensures.survives c.in_ok-id.ensures.same sees d
    c.insert_recording.ensures.survives (λ clean. rw none at (c.in_ok-id.ensures.id clean))
    (λ clean. rw again at (c.in_ok-id-2.ensures.added clean))))

pub returns-clause-row_id : goal.returns-clause-row_id
returns-clause-row_id g c =
    let a = state g.S.Store c.store.inside.conn in
    let b = state g.S.Store c.select_recording.new.conn in
    let d = state g.S.Store c.insert_recording.new.conn in
    let k = c.args.identity.now in
    let sees = rw (← c.store.view_is) at c.requires.sees in
    let is : c.as_slice.result.now ≡ key_bytes k = search rules in
    let none : c.in_ok-id.field-0 ≡ None = search rules in
    let again : c.as_slice-2.result.now ≡ c.as_slice.result.now = search rules in
    rw (to_z-of_z w64 c.in_ok-id-2.id (search rules), ← c.store.view_is)
    (is_made c.store.inside.cap a b c.in_ok-id-2.id k c.as_slice.result.now is
    c.to_bytes.ensures.key c.select_recording.ensures.survives c.in_ok-id.ensures.same sees d
    c.insert_recording.ensures.survives (λ clean. rw none at (c.in_ok-id.ensures.id clean))
    (λ clean. rw again at (c.in_ok-id-2.ensures.added clean)))
