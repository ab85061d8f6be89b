use Rattle.std.specs.List.{flat_map}
use Rattle.edf_cli.specs.Output.{IsWritten}
use Rattle.edf_cli.proofs.Puts.{remarked}
use Rattle.edf_cli.proofs.output.print_line.Goals as goal

pub returns : goal.returns
returns g c = remarked (g.W.Output) c.args.out.now c.print_parts-printed.new.out c.remark.new.self
    (λ w. IsWritten w (flat_map (λ part. part.now) c.args.parts.now) c.args.status
    c.print_parts-printed.result)
    c.remark.ensures.contents c.remark.ensures.failures c.print_parts-printed.ensures
