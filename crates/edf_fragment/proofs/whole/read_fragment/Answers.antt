use Rattle.std.proofs.Common.{◌≡◌, ℕ, ◌∙◌, sym, subst, rules}
use Rattle.std.proofs.lemmas.Result.{err_from_is_err_and}
use Rattle.edf_header.specs.Header.{Layout}
use Rattle.edf_fragment.specs.Reading.{CountsReadFault}
use Rattle.edf_fragment.specs.Whole.{ReadsFragment}
use Rattle.edf_fragment.proofs.Fragments.{open_refused, fragment_read, records_refused}
use Rattle.edf_fragment.proofs.whole.read_fragment.Goals as goal

pub returns-in_err-fragment : goal.returns-in_err-fragment
returns-in_err-fragment g c = record {
  step = let told = open_refused _ _ _ c.in_err-fragment.ensures.step in search rules;
  counted = search rules;
}

pub returns : goal.returns
returns g c =
    let same : c.into_header.result ≡ c.in_ok-fragment.fragment.header = c.into_header.ensures
    ∙ c.in_ok-records.ensures.header in
    let left = g.R.Input.remaining c.args.input.now in
    let rest = g.R.Input.remaining c.read_records.new.input in
    record {
      step = subst (λ (l : Layout). ReadsFragment left rest l c.in_ok-records.records.items)
          (sym same) (fragment_read _ _ _ c.in_ok-fragment.fragment.header _
          c.in_ok-fragment.ensures.step.0 c.in_ok-records.ensures.read.step);
      counted = search rules;
    }

pub returns-in_err-records : goal.returns-in_err-records
returns-in_err-records g c =
    let p = err_from_is_err_and c.from_residual-in_err-records.result
    c.from_residual-in_err-records.ensures.1 in
    let counted : CountsReadFault (g.R.Input.failures c.args.input.now)
    (g.R.Input.failures c.read_records.new.input) c.in_err-records.field-0.0 =
    subst (λ (n : ℕ). CountsReadFault n (g.R.Input.failures c.read_records.new.input)
    c.in_err-records.field-0.0) c.in_ok-fragment.ensures.counted
    c.in_err-records.ensures.read.counted in
    rw (p.1, p.2) (record {
      step = records_refused _ _ _ c.in_ok-fragment.fragment.header _
          c.in_ok-fragment.ensures.step.0 c.in_err-records.ensures.read.step;
      counted = counted;
    })
