use Rattle.std.proofs.Common.{◌++◌, ℕ, List, [], ap, subst, ◌∙◌}
use Rattle.edf_cli.specs.Output.{output_change, IsWritten}
use Rattle.edfruns_command.proofs.refusal.print_reread.Goals as goal

pub returns-in-Changed : goal.returns-in-Changed
returns-in-Changed g c =
    let IsTold : List ℕ → Type 0 = λ bytes.
    IsWritten (output_change g.F.Output c.args.err.now c.print_parts.new.out) bytes c.args.status
    c.print_parts.result in
    let told = subst IsTold (ap (λ (t : List ℕ). t ++ (c.as_slice.result.now ++ []))
    c.as_bytes.ensures.value
    ∙ ap (λ (t : List ℕ). c.args.file.now ++ (t ++ [])) c.as_slice.ensures) c.print_parts.ensures in
    rw c.in-Changed.is told
