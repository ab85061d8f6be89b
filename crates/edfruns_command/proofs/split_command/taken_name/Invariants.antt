use Rattle.std.proofs.Common.{◌≡◌, ℕ, List, All, map, string_bytes, take}
use Rattle.edf_cli.specs.There.{IsVacant}
use Rattle.edfruns_command.proofs.split_command.taken_name.Given as goal

abbrev pub invariant-loop-name : goal.invariant-loop-name
invariant-loop-name g l = record {
  free : All (IsVacant (g.P.NewFiles.there l.initial.outputs))
      (take l.name-index (map string_bytes l.names));
  there : (other : List ℕ) → g.P.NewFiles.there l.outputs other
      ≡ g.P.NewFiles.there l.initial.outputs other;
  made : g.P.NewFiles.made l.outputs ≡ g.P.NewFiles.made l.initial.outputs;
  failed : g.P.NewFiles.failed l.outputs ≡ g.P.NewFiles.failed l.initial.outputs;
  known : g.P.NewFiles.known l.outputs ≡ g.P.NewFiles.known l.initial.outputs;
}
