use Rattle.std.proofs.Common.{Option, sym, subst, refl}
use Rattle.std.specs.Prelude.{option_map, string_bytes}
use Rattle.edf_cli.specs.Output.{output_change}
use Rattle.edf_cli.specs.Making.{making}
use Rattle.edfmend_command.specs.Run.{IsDoneTo}
use Rattle.edfmend_command.proofs.mend_command.run_mend.Goals as goal

pub returns-in-Some-clause-done : goal.returns-in-Some-clause-done
returns-in-Some-clause-done g c =
    let done = rw (c.as_str-name.ensures.value, c.as_str-file.ensures.value) at
    c.mend_to.ensures.done in
    subst (λ (k : Option _). IsDoneTo (making g.M.NewFiles c.args.maker.now c.mend_to.new.maker)
    (output_change g.O.Output c.args.out.now c.mend_to.new.out)
    (output_change g.F.Output c.args.err.now c.mend_to.new.err)
    (string_bytes c.args.command.now.input)
    (g.I.Inputs.bytes c.args.inputs.now (string_bytes c.args.command.now.input))
    c.args.command.now.wanted (option_map string_bytes k) c.mend_to.result)
    (sym c.in-Some.is) done

pub returns-in-None-clause-done : goal.returns-in-None-clause-done
returns-in-None-clause-done g c =
    let printed = rw c.as_str-file.ensures.value at c.print_changes.ensures.printed in
    subst (λ (k : Option _). IsDoneTo (making g.M.NewFiles c.args.maker.now c.args.maker.now)
    (output_change g.O.Output c.args.out.now c.print_changes.new.out)
    (output_change g.F.Output c.args.err.now c.print_changes.new.err)
    (string_bytes c.args.command.now.input)
    (g.I.Inputs.bytes c.args.inputs.now (string_bytes c.args.command.now.input))
    c.args.command.now.wanted (option_map string_bytes k) c.print_changes.result)
    (sym c.in-None.is) ((refl, refl), printed)
