use Rattle.std.proofs.Common.{◌++◌, ◌∷◌, [], ℕ, List, ap, subst, ◌∙◌, codes}
use Rattle.edf_cli.specs.Output.{output_change, IsWritten}
use Rattle.edf_cli.specs.declared.status.Status.TheVariants.{Done}
use Rattle.edfruns_command.proofs.Outside.{tells-some}
use Rattle.edfruns_command.proofs.refusal.tell_outside.Goals as goal

pub returns : goal.returns
returns g c =
    let err = output_change g.F.Output c.args.err.now c.print_parts.new.out in
    let IsTold : List ℕ → Type 0 = λ bytes. IsWritten err bytes Done c.print_parts.result in
    let digits : List ℕ → List ℕ = λ t. t ++ (10 ∷ []) in
    tells-some err c.args.file.now c.args.outside c.print_parts.result c.if-outside-eq0.false
    (subst IsTold (ap (λ (t : List ℕ).
    t ++ (c.as_slice.result.now ++ digits c.as_bytes-2.result.now)) c.as_bytes.ensures.value
    ∙ ap (λ (t : List ℕ). c.args.file.now ++ (t ++ digits c.as_bytes-2.result.now))
    c.as_slice.ensures
    ∙ ap (λ (t : List ℕ). c.args.file.now ++ (codes " outside=" ++ digits t))
    (c.as_bytes-2.ensures.value ∙ c.format-digits.ensures.text)) c.print_parts.ensures)
