use Rattle.std.proofs.Common.{◌≡◌, List, drop, w64, rules, arith, refl, sym, subst, ◌∙◌}
use Rattle.std.proofs.lemmas.Int.{to_z-of_z}
use Rattle.sqlite.specs.Held.{state}
use Rattle.sqlite.specs.State.{HasCleanDisk}
use Rattle.edf_tables.specs.declared.row.RecordRow.{RecordRow}
use Rattle.edf_store.specs.declared.cursor.Cursor.{Cursor}
use Rattle.edf_store.proofs.Readiness.{stays_so}
use Rattle.edf_store.proofs.Walks.{ShowFirst, ready_walking, still_walks, page_next, page_walks}
use Rattle.edf_store.proofs.Walks.{none_next}
use Rattle.edf_store.proofs.records.read_ahead.Goals as goal

pub page_rows-requires : goal.page_rows-requires
page_rows-requires g c =
    let ready = rw (← c.store.view_is) at c.requires.ready in
    record {
      ready = λ clean. rw (to_z-of_z w64 c.args.recording c.ranges.recording)
          (ready_walking c.store.inside.cap (state g.S.Store c.store.inside.conn) c.args.recording
          c.args.cursor.now clean ready);
    }

pub returns-clause-stays : goal.returns-clause-stays
returns-clause-stays g c = rw (← c.store.view_is)
    (stays_so g.S.Store c.store.inside.cap c.store.inside.conn c.page_rows.new.conn
    c.page_rows.ensures.survives c.page_rows.ensures.committed)

pub returns-clause-ahead : goal.returns-clause-ahead
returns-clause-ahead g c =
    let cap = c.store.inside.cap in
    let a = state g.S.Store c.store.inside.conn in
    let b = state g.S.Store c.page_rows.new.conn in
    let id = c.args.recording in
    let cursor = c.args.cursor.now in
    let next : Cursor = record {
      start = cursor.start;
      limit = cursor.limit;
      rows =
          c.from_vec.result;
    } in
    let size = to_z-of_z w64 id c.ranges.recording in
    let far = to_z-of_z w64 cursor.start (search rules) in
    rw (← c.store.view_is) (λ h k n walked clean.
    let was_clean : HasCleanDisk a = omega (arith, c.page_rows.ensures.survives.clean, clean) in
    let it = walked was_clean in
    let shown = rw (size, far) at (c.in_ok-rows.ensures.page clean) in
    let page = page_next cap a id cursor h k n it c.in_ok-rows.rows.items shown in
    let ahead = subst (λ (l : List RecordRow). ShowFirst l (drop n (h k)))
    (sym c.from_vec.ensures.items) page in
    still_walks cap a id next h k n (page_walks cap a id cursor h k n it next refl refl ahead) b
    (c.in_ok-rows.ensures.same clean))

pub returns-clause-last : goal.returns-clause-last
returns-clause-last g c clean =
    let a = state g.S.Store c.store.inside.conn in
    let size = to_z-of_z w64 c.args.recording c.ranges.recording in
    let far = to_z-of_z w64 c.args.cursor.now.start (search rules) in
    let was_clean : HasCleanDisk a = omega (arith, c.page_rows.ensures.survives.clean, clean) in
    let shown = rw (size, far) at (c.in_ok-rows.ensures.page clean) in
    let same : c.from_vec.result.items ≡ c.in_ok-rows.rows.items = c.from_vec.ensures.items in
    rw (← c.store.view_is) (λ h k n walked none.
    none_next c.store.inside.cap a c.args.recording c.args.cursor.now h k n (walked was_clean)
    c.in_ok-rows.rows.items shown (sym same ∙ none))

pub returns-in_err-rows-clause-stays : goal.returns-in_err-rows-clause-stays
returns-in_err-rows-clause-stays g c =
    rw (← c.store.view_is) (stays_so g.S.Store c.store.inside.cap c.store.inside.conn
    c.page_rows.new.conn c.page_rows.ensures.survives c.page_rows.ensures.committed)
