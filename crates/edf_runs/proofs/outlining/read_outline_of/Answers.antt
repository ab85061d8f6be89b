use Rattle.std.proofs.Common.{◌≡◌, ◌∙◌, ap, refl, sym, subst, rules}
use Rattle.std.proofs.lemmas.Result.{err_from_is_err_and}
use Rattle.edf_header.specs.Header.{Layout}
use Rattle.edf_fragment.specs.Reading.{ReadsHeader}
use Rattle.edf_fragment.proofs.Fragments.{open_refused, records_refused}
use Rattle.edf_runs.proofs.Outlined.{outlined}
use Rattle.edf_runs.proofs.outlining.read_outline_of.Goals as goal

pub returns-in_err-fragment-clause-answer : goal.returns-in_err-fragment-clause-answer
returns-in_err-fragment-clause-answer g c = let told =
    open_refused _ _ _ c.in_err-fragment.ensures.step in search rules

pub returns-in_err-spans-clause-answer : goal.returns-in_err-spans-clause-answer
returns-in_err-spans-clause-answer g c =
    let p = err_from_is_err_and c.from_residual-in_err-spans.result
    c.from_residual-in_err-spans.ensures.1 in
    rw (p.1, p.2) (records_refused _ _ _ c.in_ok-fragment.fragment.header _
    c.in_ok-fragment.ensures.step.0 c.in_err-spans.ensures.answer)

pub returns-clause-answer : goal.returns-clause-answer
returns-clause-answer g c =
    let l = c.in_ok-fragment.fragment.header in
    let answer = c.in_ok-spans.ensures.answer in
    let header : c.into_header.result ≡ l = c.into_header.ensures ∙ c.in_ok-spans.ensures.header in
    outlined _ _ _ l answer.0 _ c.in_ok-fragment.ensures.step.0 answer.1
    (c.into_identity.ensures ∙ ap (λ (x : Layout). x.key) header) answer.2

pub returns-then-is_miscounted-clause-answer : goal.returns-then-is_miscounted-clause-answer
returns-then-is_miscounted-clause-answer g c =
    let input = g.R.Input.remaining c.args.input.now in
    let remaining = g.R.Input.remaining c.read.new.input in
    c.if-is_miscounted.ensures refl input remaining
    (subst (λ (l : Layout). ReadsHeader input remaining l) (sym c.header.ensures)
    c.in_ok-fragment.ensures.step.0)
