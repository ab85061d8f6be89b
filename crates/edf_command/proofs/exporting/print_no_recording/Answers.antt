use Rattle.std.proofs.Common.{List, ℕ, ◌++◌, ◌∷◌, [], subst, codes, ◌∙◌}
use Rattle.edf_cli.specs.Output.{output_change, IsWritten}
use Rattle.edf_cli.specs.declared.status.Status.TheVariants.{Refused}
use Rattle.edf_command.proofs.exporting.print_no_recording.Goals as goal

pub returns : goal.returns
returns g c =
    let all = output_change g.F.Output c.args.err.now c.print_parts.new.out in
    let IsSo : List ℕ → Type 0 = λ digits. IsWritten all
    (codes "no recording at place " ++ (digits ++ (10 ∷ []))) Refused c.print_parts.result in
    let HasWords : List ℕ → Type 0 = λ words. IsWritten all
    (words ++ (c.as_bytes.result.now ++ (10 ∷ []))) Refused c.print_parts.result in
    subst IsSo (c.as_bytes.ensures.value ∙ c.format-digits.ensures.text)
    (subst HasWords c.as_slice.ensures c.print_parts.ensures)
