use Rattle.sqlite.specs.Order.{Row}
use Rattle.sqlite_value.specs.Order.{column}
use Rattle.std.proofs.Common.{rules, ap, None, Some, w64, arith, subst}
use Rattle.std.proofs.lemmas.Int.{to_z-of_z}
use Rattle.std.proofs.lemmas.Result.{err_from_is_err_and}
use Rattle.sqlite.specs.Effect.{Database}
use Rattle.sqlite.specs.Held.{state}
use Rattle.sqlite.specs.State.{HasCleanDisk}
use Rattle.edf_tables.proofs.Commits.{quiet_then, survives_same}
use Rattle.edf_rows.specs.Cells.{recordings_in}
use Rattle.edf_rows.specs.Inside.All.{IsAfter}
use Rattle.edf_rows.specs.Inside.Checked.{ChecksRow}
use Rattle.edf_rows.proofs.Counts.{counted_none}
use Rattle.edf_rows.proofs.AllRows.{rows_same, rows_then, row_in, up_more, last_more, id_twice}
use Rattle.edf_rows.proofs.AllRows.{counted_more}
use Rattle.edf_rows.proofs.Parts.{done, failed}
use Rattle.edf_rows.proofs.Shown.{shown_rows, shown_then}
use Rattle.edf_rows.proofs.all.count_owned.Goals as goal

pub loop-row-init : goal.loop-row-init
loop-row-init g c = record {
  crash = survives_same (state g.S.Store c.args.conn.now) (λ _. ⊥);
  same = λ clean. rows_same (state g.S.Store c.args.conn.now);
  counted = λ clean. counted_none c.args.cap (state g.S.Store c.args.conn.now).now.trees;
  up_to = tt;
  met = tt;
  low = omega arith;
}

pub returns-in_default-clause-counts : goal.returns-in_default-clause-counts
returns-in_default-clause-counts g c clean =
    let old = state g.S.Store c.args.conn.now in
    let was = state g.S.Store c.loop-row.conn in
    let inv = c.loop-row.invariant in
    let late : HasCleanDisk was = omega (
      arith,
      c.check_recording_row.ensures.checks.survives.clean,
    ) in
    let early : HasCleanDisk old = omega (arith, late, inv.crash.clean) in
    let told = subst (ChecksRow c.args.cap was.now.trees c.row-item.result) c.in_default.is
    (c.in_ok-count.ensures.answers clean) in
    let here = row_in (recordings_in old.now.trees) c.args.rows.now c.loop-row.row-index
    c.row-item.result (c.requires.listed early) (search rules) (search rules) in
    subst (λ (d : Database). ChecksRow c.args.cap d.trees c.row-item.result None)
    (inv.same late).now_is told here

pub loop-row-preserved : goal.loop-row-preserved
loop-row-preserved g c =
    let old = state g.S.Store c.args.conn.now in
    let was = state g.S.Store c.loop-row.conn in
    let now = state g.S.Store c.check_recording_row.new.conn in
    let inv = c.loop-row.invariant in
    let after : IsAfter c.loop-row.last c.row-item.result c.in-Some-next_id.id =
    c.in-Some-next_id.ensures in
    record {
      crash = quiet_then old was now _ inv.crash c.check_recording_row.ensures.checks.survives;
      same = λ clean. rows_then old was now
          (inv.same (omega (arith, c.check_recording_row.ensures.checks.survives.clean)))
          (c.in_ok-count.ensures.checks.same clean);
      counted = λ clean.
          let late : HasCleanDisk was =
          omega (arith, c.check_recording_row.ensures.checks.survives.clean) in
          let early : HasCleanDisk old = omega (arith, late, inv.crash.clean) in
          counted_more c.args.cap old.now was.now c.args.rows.now c.loop-row.row-index
          c.row-item.result c.loop-row.sum c.in-Some.count c.from.result c.loop-row.last
          c.in-Some-next_id.id (inv.same late).now_is (c.requires.listed early)
          (search rules) (search rules) (search rules) (inv.counted late) inv.up_to after
          (subst (ChecksRow c.args.cap was.now.trees c.row-item.result) c.in-Some.is
          (c.in_ok-count.ensures.answers clean));
      up_to = rw (to_z-of_z w64 c.in-Some-next_id.id (search rules))
          (up_more c.args.rows.now c.loop-row.row-index c.row-item.result c.loop-row.last
          c.in-Some-next_id.id (search rules) (search rules) inv.up_to after);
      met = rw (to_z-of_z w64 c.in-Some-next_id.id (search rules))
          (last_more c.args.rows.now c.loop-row.row-index c.row-item.result c.loop-row.last
          c.in-Some-next_id.id (search rules) (search rules) after);
      low = search rules;
    }

pub returns-in_err-count-clause-checks : goal.returns-in_err-count-clause-checks
returns-in_err-count-clause-checks g c =
    let old = state g.S.Store c.args.conn.now in
    let was = state g.S.Store c.loop-row.conn in
    let now = state g.S.Store c.check_recording_row.new.conn in
    let inv = c.loop-row.invariant in
    failed g.S.Store c.args.conn.now c.check_recording_row.new.conn _ _
    (err_from_is_err_and c.from_residual.result c.from_residual.ensures.1)
    (λ clean. shown_then old was now
    (inv.same (omega (arith, c.check_recording_row.ensures.checks.survives.clean)))
    (c.in_err-count.ensures.checks.refused clean))
    (quiet_then old was now _ inv.crash c.check_recording_row.ensures.checks.survives)

pub returns-in_default-clause-checks : goal.returns-in_default-clause-checks
returns-in_default-clause-checks g c =
    let old = state g.S.Store c.args.conn.now in
    let was = state g.S.Store c.loop-row.conn in
    let now = state g.S.Store c.check_recording_row.new.conn in
    let inv = c.loop-row.invariant in
    done g.S.Store c.args.conn.now c.check_recording_row.new.conn _
    (λ clean. rows_then old was now
    (inv.same (omega (arith, c.check_recording_row.ensures.checks.survives.clean)))
    (c.in_ok-count.ensures.checks.same clean))
    (quiet_then old was now _ inv.crash c.check_recording_row.ensures.checks.survives)

pub returns-in_default-next_id-clause-checks : goal.returns-in_default-next_id-clause-checks
returns-in_default-next_id-clause-checks g c =
    let old = state g.S.Store c.args.conn.now in
    let was = state g.S.Store c.loop-row.conn in
    let now = state g.S.Store c.check_recording_row.new.conn in
    let inv = c.loop-row.invariant in
    done g.S.Store c.args.conn.now c.check_recording_row.new.conn _
    (λ clean. rows_then old was now
    (inv.same (omega (arith, c.check_recording_row.ensures.checks.survives.clean)))
    (c.in_ok-count.ensures.checks.same clean))
    (quiet_then old was now _ inv.crash c.check_recording_row.ensures.checks.survives)

pub returns-then-more-ge-MOST_COUNTED-clause-checks :
    goal.returns-then-more-ge-MOST_COUNTED-clause-checks
returns-then-more-ge-MOST_COUNTED-clause-checks g c =
    let old = state g.S.Store c.args.conn.now in
    let was = state g.S.Store c.loop-row.conn in
    let now = state g.S.Store c.check_recording_row.new.conn in
    let inv = c.loop-row.invariant in
    record {
      same = λ clean. tt;
      refused = λ clean. shown_rows old now (rows_then old was now
          (inv.same (omega (arith, c.check_recording_row.ensures.checks.survives.clean)))
          (c.in_ok-count.ensures.checks.same clean));
      survives = quiet_then old was now _ inv.crash
          c.check_recording_row.ensures.checks.survives;
    }

pub returns-in_default-next_id-clause-counts : goal.returns-in_default-next_id-clause-counts
returns-in_default-next_id-clause-counts g c clean =
    let old = state g.S.Store c.args.conn.now in
    let was = state g.S.Store c.loop-row.conn in
    let inv = c.loop-row.invariant in
    let late : HasCleanDisk was = omega (
      arith,
      c.check_recording_row.ensures.checks.survives.clean,
    ) in
    let early : HasCleanDisk old = omega (arith, late, inv.crash.clean) in
    let told = subst (ChecksRow c.args.cap was.now.trees c.row-item.result) c.in-Some.is
    (c.in_ok-count.ensures.answers clean) in
    let here = row_in (recordings_in old.now.trees) c.args.rows.now c.loop-row.row-index
    c.row-item.result (c.requires.listed early) (search rules) (search rules) in
    let has = (subst (λ (d : Database). ChecksRow c.args.cap d.trees c.row-item.result
    (Some c.in-Some.count)) (inv.same late).now_is told here).0 in
    id_twice c.args.cap old.now.trees c.args.rows.now c.loop-row.row-index c.row-item.result
    c.loop-row.last has.id (c.requires.listed early) (c.requires.ordered early) (search rules)
    (search rules) inv.met (ap (λ (r : Row). column r 0) has.cells) c.in_default-next_id.ensures
