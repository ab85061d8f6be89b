use Rattle.std.proofs.Common.{◌≡◌, ◌++◌, ℕ, List, map, take, string_bytes}
use Rattle.edf_command.proofs.taking.open_all.Given as goal

abbrev pub invariant-loop-file : goal.invariant-loop-file
invariant-loop-file g l = record {
  opened : map (λ r. g.I.Reader.Input.remaining r) l.readers.items ≡ map
      (λ file. g.I.Inputs.bytes l.fn.inputs (string_bytes file)) (take l.file-index l.files);
  names : g.I.Inputs.opened l.inputs ≡ g.I.Inputs.opened l.fn.inputs
      ++ map string_bytes (take l.file-index l.files);
  same : (name : List ℕ) → g.I.Inputs.bytes l.inputs name ≡ g.I.Inputs.bytes l.fn.inputs name;
}
