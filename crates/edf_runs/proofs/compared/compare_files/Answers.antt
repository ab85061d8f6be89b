use Rattle.std.proofs.Common.{◌≡◌, refl, sym, ap, ◌∙◌, subst, rules}
use Rattle.edf_header.specs.Header.{Layout}
use Rattle.edf_fragment.proofs.Fragments.{open_refused, records_refused}
use Rattle.edf_runs.specs.Inside.Siding.{IsSideFault}
use Rattle.edf_runs.proofs.ReadOn.{compared-files}
use Rattle.edf_runs.proofs.compared.compare_files.Goals as goal

pub returns-in-Err : goal.returns-in-Err
returns-in-Err g c = open_refused _ _ _ c.in-Err.ensures.step

pub returns-in-Err-read : goal.returns-in-Err-read
returns-in-Err-read g c = open_refused _ _ _ c.in-Err-read.ensures.step

pub returns-in-Ok-compare_records : goal.returns-in-Ok-compare_records
returns-in-Ok-compare_records g c =
    let answer = c.in-Ok-compare_records.ensures.answer in
    let key : c.identity.result.now ≡ c.identity-2.result.now = search rules in
    let same = sym (c.identity.ensures ∙ ap (λ (l : Layout). l.key) c.header.ensures) ∙ key
    ∙ (c.identity-2.ensures ∙ ap (λ (l : Layout). l.key) c.header-2.ensures) in
    compared-files _ _ _ _ _ _ c.in-Ok.fragment.header c.in-Ok-read.fragment.header answer.0
    answer.1 c.in-Ok-compare_records.sides _ c.in-Ok.ensures.step.0 c.in-Ok-read.ensures.step.0
    same answer.2 answer.3 c.in-Ok-compare_records.ensures.duration answer.4 refl refl

pub returns-in-Err-First : goal.returns-in-Err-First
returns-in-Err-First g c =
    records_refused _ _ _ c.in-Ok.fragment.header _ c.in-Ok.ensures.step.0
    (subst (IsSideFault c.in-Ok.fragment.header c.in-Ok-read.fragment.header
    (g.R.Input.remaining c.read.new.input) (g.R.Input.remaining c.compare_records.new.first_input)
    (g.S.Input.remaining c.read-2.new.input)
    (g.S.Input.remaining c.compare_records.new.second_input)) c.in-Err-First.field-0-is
    c.in-Err-First.ensures.answer)

pub returns-in-Err-Second : goal.returns-in-Err-Second
returns-in-Err-Second g c =
    records_refused _ _ _ c.in-Ok-read.fragment.header _ c.in-Ok-read.ensures.step.0
    (subst (IsSideFault c.in-Ok.fragment.header c.in-Ok-read.fragment.header
    (g.R.Input.remaining c.read.new.input) (g.R.Input.remaining c.compare_records.new.first_input)
    (g.S.Input.remaining c.read-2.new.input)
    (g.S.Input.remaining c.compare_records.new.second_input)) c.in-Err-Second.field-0-is
    c.in-Err-Second.ensures.answer)

pub returns-then-not-same : goal.returns-then-not-same
returns-then-not-same g c =
    let one : c.into_identity.result ≡ c.in-Ok.fragment.header.key = search rules in
    let other : c.into_identity-then-not-same.result ≡ c.in-Ok-read.fragment.header.key =
    search rules in
    let not : ¬ (c.into_identity.result ≡ c.into_identity-then-not-same.result) = search rules in (
      c.in-Ok.fragment.header,
      c.in-Ok-read.fragment.header,
      c.in-Ok.ensures.step.0,
      c.in-Ok-read.ensures.step.0,
      one,
      other,
      not,
    )
