use Rattle.std.specs.List.{flat_map}
use Rattle.edf_cli.specs.Output.{output_change}
use Rattle.edf_cli.proofs.Puts.{done-put, trouble-put}
use Rattle.edf_cli.proofs.output.print_parts.Goals as goal

pub returns-then-put_parts : goal.returns-then-put_parts
returns-then-put_parts g c = done-put (output_change g.W.Output c.args.out.now c.put_parts.new.out)
    (flat_map (λ part. part.now) c.args.parts.now) c.put_parts.result c.args.status
    c.put_parts.ensures c.if-put_parts.true

pub returns-else-put_parts : goal.returns-else-put_parts
returns-else-put_parts g c =
    trouble-put (output_change g.W.Output c.args.out.now c.put_parts.new.out)
    (flat_map (λ part. part.now) c.args.parts.now) c.put_parts.result c.args.status
    c.put_parts.ensures c.if-put_parts.false
