use Rattle.std.proofs.Common.{◌≡◌, length, w64, arith, rules, refl}
use Rattle.std.proofs.lemmas.Int.{to_z-of_z}
use Rattle.std.proofs.lemmas.Result.{err_from_is_err_and}
use Rattle.sqlite.specs.State.{HasCleanDisk}
use Rattle.edf_store.specs.Held.{at}
use Rattle.edf_store.proofs.Walks.{walk_ended, record_next, read_next, then_walks, no_items}
use Rattle.edf_store.proofs.records.next_record.Goals as goal

pub returns-in_default-clause-step : goal.returns-in_default-clause-step
returns-in_default-clause-step g c clean h k n walked =
    let size = to_z-of_z w64 c.args.recording c.ranges.recording in
    let last = rw size at (c.in_ok-read_ahead.ensures.last clean) in
    let empty : length c.read_ahead.new.cursor.rows.items ≡ 0 = search rules in
    last h k n walked (no_items _ empty)

pub returns-in_default-clause-moved : goal.returns-in_default-clause-moved
returns-in_default-clause-moved g c h k n walked clean =
    let size = to_z-of_z w64 c.args.recording c.ranges.recording in
    let last = rw size at (c.in_ok-read_ahead.ensures.last clean) in
    let ahead = rw size at c.in_ok-read_ahead.ensures.ahead in
    let empty : length c.read_ahead.new.cursor.rows.items ≡ 0 = search rules in
    let left : length c.pop_front.new.self.items ≡ 0 = search rules in
    walk_ended c.read_ahead.new.store.cap (at g.S.Store c.read_ahead.new.store) c.args.recording
    c.read_ahead.new.cursor h k n (ahead h k n walked clean) _ refl refl (no_items _ left)
    (last h k n walked (no_items _ empty))

pub returns-in_err-read_ahead-clause-step : goal.returns-in_err-read_ahead-clause-step
returns-in_err-read_ahead-clause-step g c clean =
    let told = err_from_is_err_and c.from_residual.result c.from_residual.ensures.1 in
    rw (told.1, told.2) (λ is. cc)

pub returns-in_err-data_record-clause-step : goal.returns-in_err-data_record-clause-step
returns-in_err-data_record-clause-step g c clean =
    let size = to_z-of_z w64 c.args.recording c.ranges.recording in
    let ahead = rw size at c.in_ok-read_ahead.ensures.ahead in
    let was_clean : HasCleanDisk (at g.S.Store c.args.store.now) =
    omega (arith, c.read_ahead.ensures.stays.crash.clean, clean) in
    let was = c.requires.ready was_clean in
    let it = ahead was.0 was.1 was.2 (λ _. was.3) clean in
    let next = record_next c.read_ahead.new.store.cap (at g.S.Store c.read_ahead.new.store)
    c.args.recording c.read_ahead.new.cursor was.0 was.1 was.2 it c.in-Some.row
    c.pop_front.new.self.items c.in-Some.ensures.items in
    let told = err_from_is_err_and c.from_residual-in_err-data_record.result
    c.from_residual-in_err-data_record.ensures.1 in
    rw (told.1, told.2) (c.in_err-data_record.ensures was.1 next.data_record it.key next.sound
    next.cells)

pub returns-clause-step : goal.returns-clause-step
returns-clause-step g c clean h k n walked =
    let size = to_z-of_z w64 c.args.recording c.ranges.recording in
    let ahead = rw size at c.in_ok-read_ahead.ensures.ahead in
    let it = ahead h k n walked clean in
    let next = record_next c.read_ahead.new.store.cap (at g.S.Store c.read_ahead.new.store)
    c.args.recording c.read_ahead.new.cursor h k n it c.in-Some.row c.pop_front.new.self.items
    c.in-Some.ensures.items in
    read_next k (h k) n c.in-Some.row c.pop_front.new.self.items c.in_ok-data_record.data_record
    next (λ d sound cells. c.in_ok-data_record.ensures k d it.key sound cells)

pub returns-clause-moved : goal.returns-clause-moved
returns-clause-moved g c h k n walked clean =
    let size = to_z-of_z w64 c.args.recording c.ranges.recording in
    let ahead = rw size at c.in_ok-read_ahead.ensures.ahead in
    let it = ahead h k n walked clean in
    let next = record_next c.read_ahead.new.store.cap (at g.S.Store c.read_ahead.new.store)
    c.args.recording c.read_ahead.new.cursor h k n it c.in-Some.row c.pop_front.new.self.items
    c.in-Some.ensures.items in
    let place = read_next k (h k) n c.in-Some.row c.pop_front.new.self.items
    c.in_ok-data_record.data_record next (λ d sound cells.
    c.in_ok-data_record.ensures k d it.key sound cells) in
    then_walks c.read_ahead.new.store.cap (at g.S.Store c.read_ahead.new.store) c.args.recording
    c.read_ahead.new.cursor h k n it _ refl c.in_ok-data_record.data_record place (search rules)
    next.others
