use Rattle.std.proofs.Common.{Bool, subst, refl, true}
use Rattle.edf_cli.specs.Output.{output_change, IsPut}
use Rattle.edf_cli.proofs.Puts.{nothing-gets, put-sent}
use Rattle.edfruns_command.proofs.list_command.send_lines.Goals as goal

pub returns-then-send : goal.returns-then-send
returns-then-send g c = (
  put-sent (g.O.Output.contents c.args.out.now) (g.O.Output.failures c.args.out.now)
      (g.O.Output.contents c.send.new.out) (g.O.Output.failures c.send.new.out) c.args.text.now
      true c.if-send.ensures,
  nothing-gets (g.F.Output.contents c.args.err.now) (g.F.Output.failures c.args.err.now),
  refl,
)

pub returns : goal.returns
returns g c =
    let out = output_change g.O.Output c.args.out.now c.send.new.out in (
      subst (λ (sent : Bool). IsPut out c.args.text.now sent) c.if-send.false
          (put-sent (g.O.Output.contents c.args.out.now) (g.O.Output.failures c.args.out.now)
          (g.O.Output.contents c.send.new.out) (g.O.Output.failures c.send.new.out)
          c.args.text.now c.send.result c.send.ensures),
      c.print_unwritten.ensures,
    )
