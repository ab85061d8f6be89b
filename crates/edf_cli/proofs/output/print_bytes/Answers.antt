use Rattle.edf_cli.proofs.Puts.{grown, put-sent, done-put, trouble-put}
use Rattle.edf_cli.proofs.output.print_bytes.Goals as goal

pub returns-then-send : goal.returns-then-send
returns-then-send g c =
    let before = g.W.Output.contents c.args.out.now in
    let old = g.W.Output.failures c.args.out.now in
    let after = g.W.Output.contents c.send.new.out in
    let new = g.W.Output.failures c.send.new.out in
    done-put (grown before old after new) c.args.bytes.now c.send.result c.args.status
    (put-sent before old after new c.args.bytes.now c.send.result c.send.ensures) c.if-send.true

pub returns-else-send : goal.returns-else-send
returns-else-send g c =
    let before = g.W.Output.contents c.args.out.now in
    let old = g.W.Output.failures c.args.out.now in
    let after = g.W.Output.contents c.send.new.out in
    let new = g.W.Output.failures c.send.new.out in
    trouble-put (grown before old after new) c.args.bytes.now c.send.result c.args.status
    (put-sent before old after new c.args.bytes.now c.send.result c.send.ensures)
    c.if-send.false
