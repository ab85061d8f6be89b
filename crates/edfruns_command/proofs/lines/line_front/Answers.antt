use Rattle.std.proofs.Common.{◌≡◌, ◌-◌, ◌+◌, ℕ, ap, ◌∙◌}
use Rattle.std.specs.Prelude.{decimal, codes, ◌++◌, option_map}
use Rattle.std.proofs.lemmas.Result.{IfOk-weaker}
use Rattle.edf_time.specs.Decimal.{short}
use Rattle.edfruns_command.specs.Lines.{end_of}
use Rattle.edfruns_command.proofs.Fronts.{front-of}
use Rattle.edfruns_command.proofs.lines.line_front.Goals as goal

pub returns : goal.returns
returns c =
    let run = c.args.run.now in
    let d = c.args.duration in
    let end : c.nanos.result + d ≡ end_of d run =
    ap (λ (n : ℕ). n + d) (c.nanos.ensures.value ∙ c.last.ensures) in
    let length : c.saturating_sub.result ≡ end_of d run - run.first =
    c.saturating_sub.ensures
    ∙ ap (λ (n : ℕ). (c.nanos.result + d) - n) (c.nanos-2.ensures.value ∙ c.first-2.ensures)
    ∙ ap (λ (n : ℕ). n - run.first) end in
    let counts = λ (n : ℕ). decimal c.args.number
    ++ (codes " records=" ++ (decimal n ++ codes " first=")) in
    IfOk-weaker c.concat.result _ _ (λ r line spell is.
    front-of spell d c.args.number run (option_map (λ run. run.now) c.args.next)
    c.as_bytes.result.now c.as_slice.result.now c.as_slice-2.result.now c.as_slice-3.result.now
    r.items
    (c.as_bytes.ensures.value ∙ c.in_ok-counts.ensures.ok ∙ ap counts
    c.records-records.ensures.value)
    (c.as_slice.ensures.value ∙ c.in_ok-start.ensures spell is ∙ ap spell c.first.ensures)
    (c.as_slice-2.ensures.value ∙ c.in_ok-seconds.ensures.text ∙ ap short length)
    (c.as_slice-3.ensures.value ∙ c.in_ok-gap.ensures d run end)
    line) c.concat.ensures
