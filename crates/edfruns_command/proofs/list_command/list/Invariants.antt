use Rattle.std.proofs.Common.{◌≡◌, ℕ, List, map, take, string_bytes}
use Rattle.edf_cli.specs.Output.{output_change}
use Rattle.edfruns_command.specs.Listed.{AreListed, OpensEach, held_before, held_after}
use Rattle.edfruns_command.proofs.list_command.list.Given as goal

abbrev pub invariant-loop-file : goal.invariant-loop-file
invariant-loop-file g l =
    let out = output_change g.O.Output l.initial.out l.out in
    let err = output_change g.F.Output l.initial.err l.err in record {
      listed : AreListed (g.I.Inputs.bytes l.initial.inputs) l.several
          (held_before out) (held_after out) (held_before err) (held_after err)
          (map string_bytes (take l.file-index l.files)) l.status;
      opened : OpensEach (g.I.Inputs.opened l.initial.inputs) (g.I.Inputs.opened l.inputs)
          (map string_bytes (take l.file-index l.files)) l.status;
      same : (name : List ℕ) →
          g.I.Inputs.bytes l.inputs name ≡ g.I.Inputs.bytes l.initial.inputs name;
    }
