use Rattle.std.proofs.Common.{ℕ, List, codes, subst, refl, inr, arith, append-nil, ◌∙◌}
use Rattle.edf_cli.specs.Output.{output_change, IsWritten}
use Rattle.edf_cli.specs.declared.status.Status.TheVariants.{Trouble}
use Rattle.edfmend_command.proofs.lines.print_ledger.Goals as goal

pub returns-in_default : goal.returns-in_default
returns-in_default g c = (
  codes "standard output refused E41 Memory\n",
  inr (
    (codes "standard output refused E41 Memory", omega arith, refl),
    subst (λ (t : List ℕ). IsWritten
        (output_change g.F.Output c.args.err.now c.print_parts.new.out) t Trouble
        c.print_parts.result)
        (append-nil c.as_slice.result.now ∙ c.as_slice.ensures) c.print_parts.ensures,
  ),
)

pub returns : goal.returns
returns g c = (
  codes "standard output refused E43 Write\n",
  inr (
    (codes "standard output refused E43 Write", omega arith, refl),
    subst (λ (t : List ℕ). IsWritten
        (output_change g.F.Output c.args.err.now c.print_parts-2.new.out) t Trouble
        c.print_parts-2.result)
        (append-nil c.as_slice-3.result.now ∙ c.as_slice-3.ensures) c.print_parts-2.ensures,
  ),
)
