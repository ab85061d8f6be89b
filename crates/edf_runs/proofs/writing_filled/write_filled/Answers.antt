use Rattle.std.proofs.Common.{List, ℕ, [], refl, sym, subst}
use Rattle.std.proofs.KnownBytes.{Appends-nil}
use Rattle.std.proofs.lemmas.Result.{err_from_is_err_and}
use Rattle.edf_runs.specs.Inside.Continuous.{IsContinuousHeader}
use Rattle.edf_runs.proofs.FilledSent.{filled-sent}
use Rattle.edf_runs.proofs.writing_filled.write_filled.Goals as goal

pub returns-in_err-header-clause-stopped : goal.returns-in_err-header-clause-stopped
returns-in_err-header-clause-stopped g c =
    let p = err_from_is_err_and c.from_residual.result c.from_residual.ensures.1 in
    rw p.1 ([], Appends-nil (g.W.Output.contents c.args.out.now))

pub returns-in_err-fragment-clause-stopped : goal.returns-in_err-fragment-clause-stopped
returns-in_err-fragment-clause-stopped g c =
    let p = err_from_is_err_and c.from_residual-in_err-fragment.result
    c.from_residual-in_err-fragment.ensures.1 in
    rw p.1 ([], Appends-nil (g.W.Output.contents c.args.out.now))

pub returns-in_err-send-clause-stopped : goal.returns-in_err-send-clause-stopped
returns-in_err-send-clause-stopped g c =
    let p = err_from_is_err_and c.from_residual-in_err-send.result
    c.from_residual-in_err-send.ensures.1 in
    let prefix = c.in_err-send.ensures.0.prefix in
    rw p.1 (prefix.prefix, prefix.wrote)

pub returns-clause-written : goal.returns-clause-written
returns-clause-written g c limits once rest one is keeps =
    let filled = c.args.filled.now in
    let measure = filled.measure in
    let opened = c.in_ok-fragment.ensures.answer in
    let header : IsContinuousHeader c.as_slice-3.result.now filled.identity measure =
    subst (λ (l : List ℕ). IsContinuousHeader l filled.identity measure)
    (sym c.as_slice-3.ensures.value) c.in_ok-header.ensures.header in
    filled-sent c.args.outline.now filled is limits keeps once rest one g.R.Input _ _ _ refl
    c.as_slice.ensures.value c.as_slice-2.ensures.value refl refl refl
    c.ordinary_bytes.ensures.value
    _ measure c.as_slice-3.result.now _ _ _ c.ordinary_bytes.ensures.key
    c.in_ok-header.ensures.begins
    header opened.0 opened.1 opened.2 c.in_ok-send.ensures.0
