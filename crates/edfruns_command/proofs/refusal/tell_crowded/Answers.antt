use Rattle.std.proofs.Common.{◌++◌, ℕ, List, ap, subst, ◌∙◌, codes}
use Rattle.edf_cli.specs.Output.{output_change, IsWritten}
use Rattle.edf_cli.specs.declared.status.Status.TheVariants.{Refused}
use Rattle.edfruns_command.proofs.refusal.tell_crowded.Goals as goal

pub returns : goal.returns
returns g c =
    let IsTold : List ℕ → Type 0 = λ bytes.
    IsWritten (output_change g.F.Output c.args.err.now c.print_parts.new.out) bytes Refused
    c.print_parts.result in
    let rest = codes " would have too many annotations in a data record\n" in
    subst IsTold (ap (λ (t : List ℕ). t ++ (c.as_bytes.result.now ++ rest)) c.as_slice.ensures
    ∙ ap (λ (t : List ℕ). codes "run " ++ (t ++ rest))
    (c.as_bytes.ensures.value ∙ c.format-digits.ensures.text)) c.print_parts.ensures
