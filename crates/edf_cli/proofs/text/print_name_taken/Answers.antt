use Rattle.std.proofs.Common.{◌++◌, ℕ, List, ap, subst, codes}
use Rattle.edf_cli.specs.Output.{output_change, IsWritten}
use Rattle.edf_cli.specs.declared.status.Status.TheVariants.{Refused}
use Rattle.edf_cli.proofs.text.print_name_taken.Goals as goal

pub returns : goal.returns
returns g c =
    let IsTextTold : List ℕ → Type 0 = λ bytes.
    IsWritten (output_change g.F.Output c.args.err.now c.print_line.new.out) bytes Refused
    c.print_line.result in
    subst IsTextTold (ap (λ (t : List ℕ). t ++ codes " is there already; nothing was written\n")
    c.as_bytes.ensures.value) c.print_line.ensures
