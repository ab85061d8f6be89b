use Rattle.std.proofs.Common.{List, ℕ, ◌++◌, ◌∷◌, [], ap, subst, codes, decimal, ◌∙◌}
use Rattle.edf_store.specs.Fault.{number}
use Rattle.edf_cli.specs.Output.{output_change, IsWritten}
use Rattle.edf_cli.specs.declared.status.Status.TheVariants.{Trouble}
use Rattle.edf_command.proofs.program.print_store_not_closed.Goals as goal

pub returns : goal.returns
returns g c =
    let all = output_change g.F.Output c.args.err.now c.print_parts.new.out in
    let HasWords : List ℕ → Type 0 = λ words. IsWritten all
    (words ++ (c.as_bytes.result.now ++ 32 ∷ (c.as_bytes-2.result.now ++ 10 ∷ []))) Trouble
    c.print_parts.result in
    let HasDigits : List ℕ → Type 0 = λ digits. IsWritten all (codes "store not closed E"
    ++ (digits ++ 32 ∷ (c.as_bytes-2.result.now ++ 10 ∷ []))) Trouble c.print_parts.result in
    let HasName : List ℕ → Type 0 = λ name. IsWritten all (codes "store not closed E"
    ++ (decimal (number c.args.fault.now) ++ 32 ∷ (name ++ 10 ∷ []))) Trouble
    c.print_parts.result in
    subst HasName (c.as_bytes-2.ensures.value ∙ c.name.ensures)
    (subst HasDigits (c.as_bytes.ensures.value ∙ c.format-digits.ensures.text
    ∙ ap decimal c.number.ensures) (subst HasWords c.as_slice.ensures c.print_parts.ensures))
