use Rattle.std.proofs.Common.{List, ℕ, sym, subst}
use Rattle.edf_command.specs.Arguments.{meaning}
use Rattle.edf_command.specs.declared.order.Order.{Order}
use Rattle.edf_cli.specs.Output.{output_change}
use Rattle.edf_command.specs.Run.{IsDone, IsConverted}
use Rattle.edf_command.proofs.running.run.Goals as goal

pub returns-in-Convert-clause-done : goal.returns-in-Convert-clause-done
returns-in-Convert-clause-done g c =
    let out = output_change g.O.Output c.args.out.now c.convert.new.out in
    let err = output_change g.F.Output c.args.err.now c.convert.new.err in
    let bytes = g.I.Inputs.bytes c.args.inputs.now in
    let Does : Order → Type 0 = λ command.
    IsDone g.S.Store c.args.store.now c.convert.new.store out err bytes (meaning command)
    c.convert.result in
    let Converts : List ℕ → Type 0 = λ name.
    IsConverted g.S.Store c.args.store.now c.convert.new.store out err (bytes name) name
    c.convert.result in
    subst Does (sym c.in-Convert.is) (subst Converts c.as_str.ensures.value
    c.convert.ensures.converted)
