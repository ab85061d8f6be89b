use Rattle.std.proofs.Common.{◌≡◌, ℕ, ◌∙◌, ap, subst, rules}
use Rattle.std.proofs.lemmas.Result.{err_from_is_err_and}
use Rattle.edf_field.specs.Number.{duration_of}
use Rattle.edf_header.specs.Key.{Key}
use Rattle.edf_header.specs.Header.{Layout}
use Rattle.edf_fragment.proofs.Fragments.{open_refused, fragment_read, records_refused}
use Rattle.edf_runs.specs.Runs.{AreListed}
use Rattle.edfruns_command.proofs.picture_command.see_file.Goals as goal

pub returns-in_err-fragment : goal.returns-in_err-fragment
returns-in_err-fragment g c = let told =
    open_refused _ _ _ c.in_err-fragment.ensures.step in search rules

pub returns-in_err-sight : goal.returns-in_err-sight
returns-in_err-sight g c =
    let p = err_from_is_err_and c.from_residual-in_err-sight.result
    c.from_residual-in_err-sight.ensures.1 in
    rw (p.1, p.2) (records_refused _ _ _ c.in_ok-fragment.fragment.header _
    c.in_ok-fragment.ensures.step.0 c.in_err-sight.ensures.answer)

pub returns : goal.returns
returns g c =
    let l = c.in_ok-fragment.fragment.header in
    let answer = c.in_ok-sight.ensures.answer in
    let header : c.into_header.result ≡ l = c.into_header.ensures ∙ c.in_ok-sight.ensures.header in
    let key : c.identity.result.now ≡ l.key = c.identity.ensures
    ∙ ap (λ (x : Layout). x.key) c.header.ensures in
    let duration : c.duration-duration.result ≡ duration_of l.key.duration =
    c.duration-duration.ensures.value ∙ ap (λ (k : Key). duration_of k.duration) key in (
      record {
        layout = l;
        records = answer.0;
        read = fragment_read _ _ _ l _ c.in_ok-fragment.ensures.step.0 answer.1;
        identity = c.into_identity.ensures ∙ ap (λ (x : Layout). x.key) header;
        listed = subst (λ (d : ℕ). AreListed d answer.0 c.in_ok-sight.sight.runs.items) duration
            answer.2;
      },
      record {
        layout = l;
        records = answer.0;
        read = fragment_read _ _ _ l _ c.in_ok-fragment.ensures.step.0 answer.1;
        noted = answer.3;
      },
    )
