use Rattle.std.proofs.Common.{ℕ, List, map, take, length, string_bytes}
use Rattle.std.specs.List.{flat_map, zip}
use Rattle.edf_cli.specs.Text.{IsInstantFormat}
use Rattle.edf_command.specs.Lines.{take_line}
use Rattle.edf_cli.specs.Output.{output_change, Gets}
use Rattle.edf_command.proofs.taking.put_answers.Given as goal

abbrev pub invariant-loop-file : goal.invariant-loop-file
invariant-loop-file g l = (spell : ℕ → List ℕ) → IsInstantFormat spell →
    Gets (output_change g.O.Output l.initial.out l.out)
    (flat_map (λ p. take_line spell p.0 p.1)
    (take (length l.yielded) (zip (map string_bytes l.files) l.answers)))
