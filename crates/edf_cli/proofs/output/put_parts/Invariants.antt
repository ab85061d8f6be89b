use Rattle.std.proofs.Common.{take}
use Rattle.std.specs.List.{flat_map}
use Rattle.edf_cli.specs.Output.{output_change, Gets}
use Rattle.edf_cli.proofs.output.put_parts.Given as goal

abbrev pub invariant-loop-part : goal.invariant-loop-part
invariant-loop-part g l = Gets (output_change g.W.Output l.initial.out l.out)
    (flat_map (λ part. part.now) (take l.part-index l.parts))
