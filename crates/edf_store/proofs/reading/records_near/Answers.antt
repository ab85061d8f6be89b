use Rattle.std.proofs.Common.{w64, pos, ◌-ℤ◌, ◌+ℤ◌, FitsSigned, arith, ◌∙◌}
use Rattle.std.proofs.lemmas.Int.{to_z-of_z, ints}
use Rattle.sqlite.specs.Held.{state}
use Rattle.sqlite.specs.State.{HasCleanDisk}
use Rattle.edf_holdings.specs.Clash.{overlapping}
use Rattle.edf_header.proofs.Cited.{key-duration-bound}
use Rattle.edf_store.proofs.Decoding.{nat_fits, fits_sub}
use Rattle.edf_store.proofs.Faults.{match_cases, ok_of_match, if_ok}
use Rattle.edf_store.proofs.Held.{still_sound}
use Rattle.edf_store.proofs.Near.{near_shown}
use Rattle.edf_store.proofs.Readiness.{stays_so}
use Rattle.edf_store.proofs.RowReads.{reads_refused, reads_rows}
use Rattle.edf_store.proofs.Steps.{ready_in, near_is, two_near, sound_near}
use Rattle.edf_store.proofs.reading.records_near.Goals as goal

pub overflow_cast-length : goal.overflow_cast-length
overflow_cast-length g c =
    let small = key-duration-bound c.requires.recording.key c.requires.recording.is_of.key in
    let same = c.requires.recording.lasts in
    record { sfits = omega (arith, small, same) }

pub overflow_sub-begin : goal.overflow_sub-begin
overflow_sub-begin g c =
    let small = key-duration-bound c.requires.recording.key c.requires.recording.is_of.key in
    let same = c.requires.recording.lasts in
    let low = c.nanos-begin.ensures.bound in
    rw (
      nat_fits c.nanos-begin.result (omega (arith, low)),
      nat_fits c.args.duration (omega (arith, small, same)),
    )
    (fits_sub c.nanos-begin.result c.args.duration (omega (arith, low))
    (omega (arith, small, same)))

pub overflow_add-begin : goal.overflow_add-begin
overflow_add-begin g c =
    let small = key-duration-bound c.requires.recording.key c.requires.recording.is_of.key in
    let same = c.requires.recording.lasts in
    let low = c.nanos-begin.ensures.bound in
    rw (
      nat_fits c.nanos-begin.result (omega (arith, low)),
      nat_fits c.args.duration (omega (arith, small, same)),
    )
    (record { sfits = omega (arith, ints, small, same, low) })

pub near_rows-requires : goal.near_rows-requires
near_rows-requires g c =
    let mine = rw (← c.store.view_is) at c.requires.recording in
    record {
      ready = λ clean. rw (to_z-of_z w64 c.args.id c.ranges.id)
          (ready_in c.store.inside.cap (state g.S.Store c.store.inside.conn) c.args.id mine.key
          mine.is_of mine.sees clean);
    }

pub invariant_of-store : goal.invariant_of-store
invariant_of-store g c = still_sound c.store.inside.cap (state g.S.Store c.store.inside.conn)
    (state g.S.Store c.near_rows.new.conn) _ c.near_rows.ensures.survives
    c.near_rows.ensures.committed c.store.invariant

pub invariant_of-store-2 : goal.invariant_of-store-2
invariant_of-store-2 g c = still_sound c.store.inside.cap (state g.S.Store c.store.inside.conn)
    (state g.S.Store c.near_rows.new.conn) _ c.near_rows.ensures.survives
    c.near_rows.ensures.committed c.store.invariant

pub returns-in_err-rows-clause-reads : goal.returns-in_err-rows-clause-reads
returns-in_err-rows-clause-reads g c =
    rw (← c.store.view_is) (reads_refused g.S.Store _ _ _ _ c.from_residual.ensures.1
    (stays_so g.S.Store c.store.inside.cap c.store.inside.conn c.near_rows.new.conn
    c.near_rows.ensures.survives c.near_rows.ensures.committed))

pub returns-clause-reads : goal.returns-clause-reads
returns-clause-reads g c =
    let mine = rw (← c.store.view_is) at c.requires.recording in
    rw (← c.store.view_is) (reads_rows g.S.Store c.store.inside.cap c.store.inside.conn
    c.near_rows.new.conn c.records_in.result c.near_rows.ensures.survives
    c.near_rows.ensures.committed c.in_ok-rows.ensures.same mine.sees)

pub returns-clause-near : goal.returns-clause-near
returns-clause-near g c clean =
    let cap = c.store.inside.cap in
    let old = state g.S.Store c.store.inside.conn in
    let new = state g.S.Store c.near_rows.new.conn in
    let start = c.nanos-begin.result in
    let d = c.args.duration in
    let mine = rw (← c.store.view_is) at c.requires.recording in
    let k = mine.key in
    let was : HasCleanDisk old = omega (arith, c.near_rows.ensures.survives.clean, clean) in
    let it = mine.sees was in
    let small = key-duration-bound k mine.is_of.key in
    let same = mine.lasts in
    let low = c.nanos-begin.ensures.bound in
    let down = fits_sub start d (omega (arith, low)) (omega (arith, small, same)) in
    let up : FitsSigned w64 (pos start +ℤ pos d) =
    record { sfits = omega (arith, ints, small, same, low) } in
    let rows = rw (
      to_z-of_z w64 c.args.id c.ranges.id,
      nat_fits start (omega (arith, low)),
      nat_fits d (omega (arith, small, same)),
      to_z-of_z w64 (pos start -ℤ pos d) down,
      to_z-of_z w64 (pos start +ℤ pos d) up,
    ) at (c.in_ok-rows.ensures.near clean) in
    rw (← c.store.view_is, ← c.nanos-begin.ensures.value)
    (match_cases _ _ c.records_in.result
    (λ records is. near_is cap old new _ c.near_rows.ensures.survives c.args.id start d k
    records.items clean mine.is_of same
    (λ h seen key shown. rw is at (c.records_in.ensures k (overlapping d start (h k)) key
    (sound_near cap h k d start seen.sound) (rows ∙ shown))))
    (λ e is. rw is at (c.records_in.ensures k (overlapping d start (it.0 k)) mine.is_of.key
    (sound_near cap it.0 k d start it.1.sound) (rows
    ∙ near_shown old.now.trees it.0 c.args.id k start d it.1.stand (mine.is_of.there was)))))

pub returns-clause-two : goal.returns-clause-two
returns-clause-two g c clean =
    let mine = rw (← c.store.view_is) at c.requires.recording in
    let near = rw (← c.store.view_is) at (returns-clause-near g c clean) in
    let old = state g.S.Store c.store.inside.conn in
    if_ok c.records_in.result _ _
    (λ records near. two_near c.store.inside.cap old c.args.id mine.key c.args.start records.items
    mine.is_of mine.sees (omega (arith, c.near_rows.ensures.survives.clean, clean)) near)
    (ok_of_match c.records_in.result _ _ near)
