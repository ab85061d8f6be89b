use Rattle.std.proofs.Common.{List, ℕ, ◌++◌, ◌∷◌, [], subst, codes}
use Rattle.edf_cli.specs.Output.{output_change, IsWritten}
use Rattle.edf_cli.specs.declared.status.Status.TheVariants.{Refused}
use Rattle.edf_serve.proofs.taking.tell_outside.Goals as goal

pub returns : goal.returns
returns g c =
    let all = output_change g.O.Output c.args.out.now c.print_parts.new.out in
    let IsSo : List ℕ → Type 0 = λ name. IsWritten all
    (name ++ (codes " is outside of the folder" ++ (10 ∷ []))) Refused c.print_parts.result in
    let HasWords : List ℕ → Type 0 = λ words. IsWritten all
    (c.as_bytes.result.now ++ (words ++ [])) Refused c.print_parts.result in
    subst IsSo c.as_bytes.ensures.value (subst HasWords c.as_slice.ensures c.print_parts.ensures)
