use Rattle.std.proofs.Common.{rules, ◌≡◌, ◌<◌, IsPermutation, IfSome, refl, subst, ◌∙◌, arith}
use Rattle.std.proofs.lemmas.Result.{err_from_is_err_and}
use Rattle.sqlite.specs.Effect.{Database}
use Rattle.sqlite.specs.Held.{state}
use Rattle.sqlite.specs.State.{HasCleanDisk}
use Rattle.edf_rows.specs.Cells.{recordings_in}
use Rattle.edf_rows.specs.Foreign.{IsForeign}
use Rattle.edf_rows.specs.Inside.All.{AreCounted, Counts}
use Rattle.edf_tables.proofs.Commits.{quiet_then}
use Rattle.edf_tables.specs.declared.row.TheConstants.{MOST_COUNTED}
use Rattle.edf_rows.proofs.AllRows.{told_all}
use Rattle.edf_rows.proofs.Parts.{done, failed}
use Rattle.edf_rows.proofs.AllRows.{rows_left, rows_then}
use Rattle.edf_rows.proofs.Shown.{shown_left, shown_then}
use Rattle.edf_rows.proofs.all.check_all.Goals as goal

pub returns-in_default-clause-answers : goal.returns-in_default-clause-answers
returns-in_default-clause-answers g c clean =
    let mid = state g.S.Store c.recordings.new.conn in
    let early : HasCleanDisk mid = omega (arith, c.count_owned.ensures.checks.survives.clean) in
    let first = c.in_ok-found.ensures.same early in
    let told : IsForeign c.args.cap mid.now.trees =
    subst (Counts c.args.cap mid.now.trees c.deref.result.now) c.in_default.is
    (c.in_ok-sum.ensures.counts clean) in
    subst (λ (d : Database). IsForeign c.args.cap d.trees) first.0.now_is told

pub returns-clause-answers : goal.returns-clause-answers
returns-clause-answers g c clean =
    let old = state g.S.Store c.args.conn.now in
    let mid = state g.S.Store c.recordings.new.conn in
    let was = state g.S.Store c.count_owned.new.conn in
    let now = state g.S.Store c.count_all_rows.new.conn in
    let late : HasCleanDisk was = omega (arith, c.count_all_rows.ensures.survives.clean) in
    let early : HasCleanDisk mid = omega (
      arith,
      c.count_owned.ensures.checks.survives.clean,
      late,
    ) in
    let start : HasCleanDisk old = omega (arith, c.recordings.ensures.survives.clean, early) in
    let first = c.in_ok-found.ensures.same early in
    let second = c.in_ok-sum.ensures.checks.same late in
    let third = c.in_ok-all.ensures.same clean in
    let counted : AreCounted c.args.cap mid.now.trees c.deref.result.now c.in-Some.sum =
    subst (Counts c.args.cap mid.now.trees c.deref.result.now) c.in-Some.is
    (c.in_ok-sum.ensures.counts late) in
    let below : c.in-Some.sum < MOST_COUNTED =
    subst (λ o. IfSome o (λ s. s < MOST_COUNTED)) c.in-Some.is c.in_ok-sum.ensures.low in
    let value : c.in_ok-found.found.items ≡ c.deref.result.now = search rules in
    let listed : IsPermutation (recordings_in old.now.trees) c.deref.result.now =
    subst (IsPermutation (recordings_in old.now.trees)) value
    (c.in_ok-found.ensures.listed early) in
    told_all c.args.cap old.now mid.now was.now now.now c.deref.result.now c.in-Some.sum
    c.in_ok-all.all _ first.0.now_is (second.now_is ∙ first.0.now_is) (third.0.now_is
    ∙ second.now_is ∙ first.0.now_is) (c.requires.schema start)
    listed counted (c.schema.ensures.live third.0.is_open).0 (omega (arith, below))
    (c.in_ok-all.ensures.count clean) refl

pub returns-in_default-clause-checks : goal.returns-in_default-clause-checks
returns-in_default-clause-checks g c =
    let old = state g.S.Store c.args.conn.now in
    let mid = state g.S.Store c.recordings.new.conn in
    let now = state g.S.Store c.count_owned.new.conn in
    done g.S.Store c.args.conn.now c.count_owned.new.conn _ (λ clean.
    let early : HasCleanDisk mid = omega (arith, c.count_owned.ensures.checks.survives.clean) in
    rows_then old mid now (rows_left old mid (c.in_ok-found.ensures.same early))
    (c.in_ok-sum.ensures.checks.same clean))
    (quiet_then old mid now _ c.recordings.ensures.survives c.count_owned.ensures.checks.survives)

pub returns-clause-checks : goal.returns-clause-checks
returns-clause-checks g c =
    let old = state g.S.Store c.args.conn.now in
    let mid = state g.S.Store c.recordings.new.conn in
    let was = state g.S.Store c.count_owned.new.conn in
    let now = state g.S.Store c.count_all_rows.new.conn in
    done g.S.Store c.args.conn.now c.count_all_rows.new.conn _ (λ clean.
    let late : HasCleanDisk was = omega (arith, c.count_all_rows.ensures.survives.clean) in
    let early : HasCleanDisk mid =
    omega (arith, c.count_owned.ensures.checks.survives.clean, late) in
    rows_then old was now (rows_then old mid was
    (rows_left old mid (c.in_ok-found.ensures.same early)) (c.in_ok-sum.ensures.checks.same late))
    (rows_left was now (c.in_ok-all.ensures.same clean)))
    (quiet_then old was now _ (quiet_then old mid was _ c.recordings.ensures.survives
    c.count_owned.ensures.checks.survives) c.count_all_rows.ensures.survives)

pub returns-in_err-found-clause-checks : goal.returns-in_err-found-clause-checks
returns-in_err-found-clause-checks g c =
    failed g.S.Store c.args.conn.now c.recordings.new.conn _ _
    (err_from_is_err_and c.from_residual.result c.from_residual.ensures.1)
    (λ clean. shown_left _ _ (c.in_err-found.ensures.refused clean))
    c.recordings.ensures.survives

pub returns-in_err-sum-clause-checks : goal.returns-in_err-sum-clause-checks
returns-in_err-sum-clause-checks g c =
    let old = state g.S.Store c.args.conn.now in
    let mid = state g.S.Store c.recordings.new.conn in
    let now = state g.S.Store c.count_owned.new.conn in
    let same = λ (clean : HasCleanDisk now). c.in_ok-found.ensures.same
    (omega (arith, c.count_owned.ensures.checks.survives.clean)) in
    failed g.S.Store c.args.conn.now c.count_owned.new.conn _ _
    (err_from_is_err_and c.from_residual-in_err-sum.result
    c.from_residual-in_err-sum.ensures.1)
    (λ clean. shown_then old mid now (rows_left old mid (same clean))
    (c.in_err-sum.ensures.checks.refused clean))
    (quiet_then old mid now _ c.recordings.ensures.survives c.count_owned.ensures.checks.survives)

pub returns-in_err-all-clause-checks : goal.returns-in_err-all-clause-checks
returns-in_err-all-clause-checks g c =
    let old = state g.S.Store c.args.conn.now in
    let mid = state g.S.Store c.recordings.new.conn in
    let was = state g.S.Store c.count_owned.new.conn in
    let now = state g.S.Store c.count_all_rows.new.conn in
    let before = quiet_then old mid was _ c.recordings.ensures.survives
    c.count_owned.ensures.checks.survives in
    failed g.S.Store c.args.conn.now c.count_all_rows.new.conn _ _
    (err_from_is_err_and c.from_residual-in_err-all.result
    c.from_residual-in_err-all.ensures.1) (λ clean.
    let late : HasCleanDisk was = omega (arith, c.count_all_rows.ensures.survives.clean) in
    let early : HasCleanDisk mid =
    omega (arith, c.count_owned.ensures.checks.survives.clean, late) in
    shown_then old was now (rows_then old mid was
    (rows_left old mid (c.in_ok-found.ensures.same early)) (c.in_ok-sum.ensures.checks.same late))
    (shown_left _ _ (c.in_err-all.ensures.refused clean)))
    (quiet_then old was now _ before c.count_all_rows.ensures.survives)
