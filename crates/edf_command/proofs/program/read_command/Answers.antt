use Rattle.edf_cli.proofs.Puts.{nothing-gets}
use Rattle.edf_command.proofs.program.read_command.Goals as goal

pub returns-in-Ok : goal.returns-in-Ok
returns-in-Ok g c = (
  c.in-Ok.ensures.command,
  nothing-gets (g.O.Output.contents c.args.out.now)
      (g.O.Output.failures c.args.out.now),
  nothing-gets (g.F.Output.contents c.args.err.now) (g.F.Output.failures c.args.err.now),
)

pub returns-in-Err : goal.returns-in-Err
returns-in-Err g c = record {
  fault = c.in-Err.fault;
  printed = c.print_fault.ensures;
  nothing = λ other values. c.in-Err.ensures.fault values other;
}
