use Rattle.std.proofs.Common.{rules, inl, inr, ◌≡◌, refl, ap, subst, Ok, None, ◌∙◌, arith, w64}
use Rattle.std.proofs.lemmas.Int.{to_z-of_z}
use Rattle.std.proofs.lemmas.Result.{err_from_is_err_and}
use Rattle.sqlite.specs.declared.types.Value.TheVariants.{Int}
use Rattle.sqlite.specs.Held.{Held, state}
use Rattle.sqlite.specs.State.{HasCleanDisk}
use Rattle.sqlite.proofs.Callers.{begun_plain, unchanged_then}
use Rattle.edf_tables.proofs.QueryTexts.{rows_text, rows_is}
use Rattle.edf_tables.proofs.Shown.{plain_at}
use Rattle.edf_tables.proofs.Reading.{query_quiet, query_left}
use Rattle.edf_tables.specs.Refused.{IsUnchangedOrRolledBack}
use Rattle.edf_rows.specs.Inside.Checked.{OnlyChecks}
use Rattle.edf_rows.proofs.AllRows.{rows_left}
use Rattle.edf_rows.proofs.Parts.{done, failed}
use Rattle.edf_rows.proofs.Shown.{shown_left, unchanged_left}
use Rattle.edf_tables.proofs.Commits.{quiet_then}
use Rattle.edf_rows.proofs.Standing.{starts, moves, stops, past_cap, ends, ends_empty}
use Rattle.edf_rows.proofs.records.check_recording.Goals.{then-count-eq0, else-count-eq0}
use Rattle.edf_rows.proofs.records.check_recording.Goals as goal

pub loop-count-init : goal.loop-count-init
loop-count-init g c =
    let old = state g.S.Store c.args.conn.now in
    let rows = c.in_ok-rows.rows.conn.now in
    let new = state g.S.Store rows in
    let made = c.in_ok-rows.ensures in
    let plain = λ (clean : HasCleanDisk old).
    plain_at rows_text _ _ rows_is old (c.requires.schema clean) in
    let began = λ (clean : HasCleanDisk new).
    begun_plain g.S.Store rows_text _ c.args.conn.now rows
    (plain (omega (arith, made.survives.clean))) (made.begun clean) in
    record {
      same_reference = refl;
      crash = query_quiet rows_text _ old new plain made.survives;
      same = λ clean. (began clean).1;
      stands = λ clean. rw (to_z-of_z w64 c.args.recording c.ranges.recording)
          (starts g.S.Store c.args.recording c.args.identity.now c.requires.long old
          (c.requires.schema (omega (arith, made.survives.clean))) rows
          (rw (c.params-to_sql.ensures ∙ ap Int (to_z-of_z w64 c.args.recording c.ranges.recording))
          at (began clean).0));
    }

pub loop-count-preserved : goal.loop-count-preserved
loop-count-preserved g c =
    let old = state g.S.Store c.args.conn.now in
    let moved = c.next.follows.holds-at-none in
    let was = c.loop-count.rows.conn.now in
    let now = c.next.follows.lender-at-none.conn.now in
    let inv = c.loop-count.invariant in
    let start = λ (clean : HasCleanDisk (state g.S.Store now)).
    c.requires.schema (omega (arith, moved.survives.clean, inv.crash.clean)) in
    let same = λ (clean : HasCleanDisk (state g.S.Store now)).
    unchanged_then old (state g.S.Store was) (state g.S.Store now)
    (inv.same (omega (arith, moved.survives.clean)))
    (rw c.in_ok-row.was at (moved.same clean)) in
    record {
      same_reference = moved.same_reference ∙ inv.same_reference;
      crash = quiet_then old (state g.S.Store was) (state g.S.Store now) _ inv.crash moved.survives;
      same = same;
      stands = λ clean. rw (to_z-of_z w64 c.args.recording c.ranges.recording)
          (moves g.S.Store c.args.recording c.args.identity.now c.requires.long old (start clean)
          c.loop-count.last c.loop-count.count _ _ was now (same clean)
          (rw (to_z-of_z w64 c.args.recording c.ranges.recording) at
          (inv.stands (omega (arith, moved.survives.clean))))
          (rw (c.in_ok-row.was, c.in-Some.is) at (moved.ok clean)) (search rules));
    }

pub returns-in_err-rows-clause-checks : goal.returns-in_err-rows-clause-checks
returns-in_err-rows-clause-checks g c =
    let old = state g.S.Store c.args.conn.now in
    let end = c.query.follows.lender-at-none in
    let new = state g.S.Store end in
    let held = rw c.in_err-rows.was at c.query.follows.holds-at-none in
    let there = λ (clean : HasCleanDisk old). plain_at rows_text _ _ rows_is old
    (c.requires.schema clean) in
    failed g.S.Store c.args.conn.now end _ _
    (err_from_is_err_and c.from_residual.result c.from_residual.ensures.1)
    (λ clean. shown_left old new (query_left rows_text _ old new
    (there (omega (arith, held.survives.clean))) _ (held.err clean)))
    (query_quiet rows_text _ old new there held.survives)

pub returns-in-None-clause-answers : goal.returns-in-None-clause-answers
returns-in-None-clause-answers g c clean =
    let old = state g.S.Store c.args.conn.now in
    let moved = c.next.follows.holds-at-none in
    let was = c.loop-count.rows.conn.now in
    let now = c.next.follows.lender-at-none.conn.now in
    let inv = c.loop-count.invariant in
    let late : HasCleanDisk (state g.S.Store now) = search rules in
    let same = unchanged_then old (state g.S.Store was) (state g.S.Store now)
    (inv.same (omega (arith, moved.survives.clean)))
    (rw c.in_ok-row.was at (moved.same late)) in
    stops g.S.Store c.args.recording c.args.identity.now c.requires.long old
    (c.requires.schema (omega (arith, moved.survives.clean, inv.crash.clean))) c.args.cap
    c.loop-count.count c.loop-count.last _ was now same
    (rw (to_z-of_z w64 c.args.recording c.ranges.recording) at
    (inv.stands (omega (arith, moved.survives.clean))))
    (rw (c.in_ok-row.was, c.in-Some.is) at (moved.ok late)) (search rules)

pub returns-in-None-clause-checks : goal.returns-in-None-clause-checks
returns-in-None-clause-checks g c =
    let old = state g.S.Store c.args.conn.now in
    let moved = c.next.follows.holds-at-none in
    let was = c.loop-count.rows.conn.now in
    let now = c.next.follows.lender-at-none.conn.now in
    let inv = c.loop-count.invariant in
    let end : now ≡ c.conn-in-None-1.given.0 = search rules in
    subst (λ (h : Held _). OnlyChecks g.S.Store c.args.conn.now h (Ok None)) end
    (done g.S.Store c.args.conn.now now None
    (λ clean. rows_left old (state g.S.Store now)
    (unchanged_then old (state g.S.Store was) (state g.S.Store now)
    (inv.same (omega (arith, moved.survives.clean))) (rw c.in_ok-row.was at (moved.same clean))))
    (quiet_then old (state g.S.Store was) (state g.S.Store now) _ inv.crash moved.survives))

pub returns-in_default-clause-answers : goal.returns-in_default-clause-answers
returns-in_default-clause-answers g c clean =
    let old = state g.S.Store c.args.conn.now in
    let moved = c.next.follows.holds-at-none in
    let was = c.loop-count.rows.conn.now in
    let now = c.next.follows.lender-at-none.conn.now in
    let inv = c.loop-count.invariant in
    let late : HasCleanDisk (state g.S.Store now) = search rules in
    let same = inv.same (omega (arith, moved.survives.clean)) in
    let has = c.requires.schema (omega (arith, moved.survives.clean, inv.crash.clean)) in
    let stands = rw (to_z-of_z w64 c.args.recording c.ranges.recording) at
    (inv.stands (omega (arith, moved.survives.clean))) in
    let on = rw (c.in_ok-row.was, c.in_default.is) at (moved.ok late) in
    elim c.if-count-eq0.branch [
      | then-count-eq0 w ↦
          rw w.result-is (ends_empty g.S.Store c.args.recording c.args.identity.now c.requires.long
          old has c.args.cap c.loop-count.count c.loop-count.last was now same stands on
          (search rules))
      | else-count-eq0 w ↦
          rw w.result-is (ends g.S.Store c.args.recording c.args.identity.now c.requires.long old
          has c.args.cap c.loop-count.count c.loop-count.last was now same stands on (search rules)
          (omega arith))
    ]

pub returns-in_default-clause-checks : goal.returns-in_default-clause-checks
returns-in_default-clause-checks g c =
    let old = state g.S.Store c.args.conn.now in
    let moved = c.next.follows.holds-at-none in
    let was = c.loop-count.rows.conn.now in
    let now = c.next.follows.lender-at-none.conn.now in
    let inv = c.loop-count.invariant in
    let end : now ≡ c.conn-in_default-1.given.0 = search rules in
    subst (λ (h : Held _). OnlyChecks g.S.Store c.args.conn.now h
    (Ok c.if-count-eq0.result)) end
    (done g.S.Store c.args.conn.now now c.if-count-eq0.result
    (λ clean. rows_left old (state g.S.Store now)
    (unchanged_then old (state g.S.Store was) (state g.S.Store now)
    (inv.same (omega (arith, moved.survives.clean))) (rw c.in_ok-row.was at (moved.same clean))))
    (quiet_then old (state g.S.Store was) (state g.S.Store now) _ inv.crash moved.survives))

pub returns-in_err-row-clause-checks : goal.returns-in_err-row-clause-checks
returns-in_err-row-clause-checks g c =
    let old = state g.S.Store c.args.conn.now in
    let moved = c.next.follows.holds-at-none in
    let was = state g.S.Store c.loop-count.rows.conn.now in
    let end = c.next.follows.lender-at-none.conn.now in
    let now = state g.S.Store end in
    let inv = c.loop-count.invariant in
    let is : end ≡ c.conn-in_err-row-1.given.0 = search rules in
    subst (λ (h : Held _). OnlyChecks g.S.Store c.args.conn.now h
    c.from_residual-in_err-row.result) is
    (failed g.S.Store c.args.conn.now end _ _
    (err_from_is_err_and c.from_residual-in_err-row.result
    c.from_residual-in_err-row.ensures.1) (λ clean.
    let early : HasCleanDisk was = omega (arith, moved.survives.clean, clean) in
    let left : IsUnchangedOrRolledBack was now = elim (rw c.in_err-row.was at (moved.kept clean)) [
      | inl fails ↦ inr fails.3
      | inr same ↦
          inl same
    ] in
    unchanged_left old was now (inv.same early) left)
    (quiet_then old was now _ inv.crash moved.survives))

pub returns-in_err-start-clause-checks : goal.returns-in_err-start-clause-checks
returns-in_err-start-clause-checks g c =
    let old = state g.S.Store c.args.conn.now in
    let moved = c.next.follows.holds-at-none in
    let held = c.loop-count.rows.conn.now in
    let was = state g.S.Store held in
    let end = c.next.follows.lender-at-none.conn.now in
    let now = state g.S.Store end in
    let inv = c.loop-count.invariant in
    let is : end ≡ c.conn-in_err-start-1.given.0 = search rules in
    subst (λ (h : Held _). OnlyChecks g.S.Store c.args.conn.now h
    c.from_residual-in_err-start.result) is
    (failed g.S.Store c.args.conn.now end _ _
    (err_from_is_err_and c.from_residual-in_err-start.result
    c.from_residual-in_err-start.ensures.1) (λ clean.
    let early : HasCleanDisk was = omega (arith, moved.survives.clean, clean) in
    unchanged_left old was now (inv.same early)
    (inl (rw c.in_ok-row.was at (moved.same clean))))
    (quiet_then old was now _ inv.crash moved.survives))

pub returns-clause-answers : goal.returns-clause-answers
returns-clause-answers g c clean =
    let old = state g.S.Store c.args.conn.now in
    let was = c.loop-count.rows.conn.now in
    let inv = c.loop-count.invariant in
    let late : HasCleanDisk (state g.S.Store was) = search rules in
    past_cap g.S.Store c.args.recording c.args.identity.now c.requires.long old
    (c.requires.schema (omega (arith, inv.crash.clean))) c.args.cap c.loop-count.count
    c.loop-count.last was
    (inv.same late) (rw (to_z-of_z w64 c.args.recording c.ranges.recording) at
    (inv.stands late)) (omega arith)

pub returns-clause-checks : goal.returns-clause-checks
returns-clause-checks g c =
    let inv = c.loop-count.invariant in
    let now = c.loop-count.rows.conn.now in
    let end : now ≡ c.conn-2-1.given.0 = search rules in
    subst (λ (h : Held _). OnlyChecks g.S.Store c.args.conn.now h (Ok None)) end
    (done g.S.Store c.args.conn.now now None
    (λ clean. rows_left (state g.S.Store c.args.conn.now) (state g.S.Store now) (inv.same clean))
    inv.crash)
