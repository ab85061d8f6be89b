use Rattle.std.proofs.Common.{◌≡◌, ◌∷◌, ◌++◌, List, [], map, rules, arith, sym, ap, ap₂, ◌∙◌}
use Rattle.std.proofs.lemmas.List.{map-append}
use Rattle.sqlite.specs.State.{HasCleanDisk, Survives, CommitsShowing}
use Rattle.sqlite.specs.Held.{state}
use Rattle.sqlite.specs.Given.{IsRefused}
use Rattle.sqlite.specs.Values.{bound}
use Rattle.sqlite.proofs.Callers.{unchanged_then}
use Rattle.sqlite.specs.Order.{Row}
use Rattle.edf_tables.specs.declared.row.RecordRow.{RecordRow}
use Rattle.edf_tables.specs.Cells.{cells_of, first_three}
use Rattle.edf_tables.proofs.Keeping.{left_keeps}
use Rattle.edf_tables.proofs.Reading.{query_left, query_quiet, shown_since}
use Rattle.edf_tables.proofs.row.records_shown.Goals as goal

pub returns-in_err-rows-clause-committed : goal.returns-in_err-rows-clause-committed
returns-in_err-rows-clause-committed g c clean =
    let old = state g.S.Store c.args.conn.now in
    let new = state g.S.Store c.query.follows.lender-at-none in
    let refused : IsRefused g.S.Store c.args.sql.now (bound c.args.params.now) c.args.conn.now
    c.query.result c.query.follows.lender-at-none = search rules in
    left_keeps old new (query_left c.args.sql.now _ old new
    (c.requires (omega (arith, refused.survives.clean))) _
    (rw c.in_err-rows.was at (refused.err clean)))

pub returns-in_err-rows-clause-survives : goal.returns-in_err-rows-clause-survives
returns-in_err-rows-clause-survives g c =
    let old = state g.S.Store c.args.conn.now in
    let new = state g.S.Store c.query.follows.lender-at-none in
    let kept : Survives old new (CommitsShowing c.args.sql.now (bound c.args.params.now) old) =
    search rules in
    query_quiet c.args.sql.now (bound c.args.params.now) old new c.requires kept

pub returns-in_default-clause-shown : goal.returns-in_default-clause-shown
returns-in_default-clause-shown g c clean =
    let old = state g.S.Store c.args.conn.now in
    let moved = c.next.follows.holds-at-none in
    let now = c.next.follows.lender-at-none.conn.now in
    let late : HasCleanDisk (state g.S.Store now) = search rules in
    let was = c.rows.invariant.2 (omega (arith, moved.survives.clean)) in
    let shown = (rw (c.in_ok-row.was, c.in_default.is) at (moved.ok late)) c.args.sql.now _ was.0
    was.1 in
    let all = shown_since c.args.sql.now _ old _ (state g.S.Store now)
    (c.requires (omega (arith, c.rows.invariant.1.clean, moved.survives.clean))) was.3 _ shown in
    (was.0, search rules, was.2)

one_more : (found more : List RecordRow) (rows : List Row) (r : RecordRow) (row : Row) →
    more ≡ found ++ r ∷ [] → map cells_of found ≡ map first_three rows →
    cells_of r ≡ first_three row → map cells_of more ≡ map first_three (rows ++ row ∷ [])
one_more found more rows r row is so one =
    ap (map cells_of) is ∙ map-append cells_of found (r ∷ [])
    ∙ ap₂ (λ a b. a ++ b ∷ []) so one ∙ sym (map-append first_three rows (row ∷ []))

pub rows-preserved : goal.rows-preserved
rows-preserved g c =
    let moved = c.next.follows.holds-at-none in (
      search rules,
      search rules,
      λ clean.
          let was = c.rows.invariant.2 (omega (arith, moved.survives.clean)) in
          let more = (rw (c.in_ok-row.was, c.in-Some.is) at (moved.ok clean)) c.args.sql.now _ was.0
          was.1 in (
            was.0 ++ c.in-Some.row.now ∷ [],
            more,
            one_more _ _ was.0 _ _ (rw c.in_ok-push.was at c.push.ensures.items) was.2
                (rw c.in_ok-record_row.was at c.record_row.ensures.value),
            unchanged_then _ _ _ was.3 (rw c.in_ok-row.was at (moved.same clean)),
          ),
    )
