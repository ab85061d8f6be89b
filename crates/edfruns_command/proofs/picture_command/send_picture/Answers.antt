use Rattle.std.proofs.Common.{ℕ, List, Bool, inr, subst}
use Rattle.edf_cli.specs.Output.{output_change, GetsPrefix, IsPut}
use Rattle.edf_cli.proofs.Puts.{put-sent}
use Rattle.edfruns_command.proofs.picture_command.send_picture.Goals as goal

pub returns-else-send : goal.returns-else-send
returns-else-send g c =
    let out = output_change g.O.Output c.args.out.now c.send.new.out in
    let bytes = c.as_bytes.result.now in
    let front : GetsPrefix out bytes =
    subst (λ (sent : Bool). IsPut out bytes sent) c.if-send.false
    (put-sent (g.O.Output.contents c.args.out.now) (g.O.Output.failures c.args.out.now)
    (g.O.Output.contents c.send.new.out) (g.O.Output.failures c.send.new.out) bytes
    c.send.result c.send.ensures) in
    inr (
      subst (λ (text : List ℕ). GetsPrefix out text) c.as_bytes.ensures.value front,
      c.print_unwritten.ensures,
    )
