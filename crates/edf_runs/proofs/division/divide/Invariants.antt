use Rattle.std.proofs.Common.{ℕ, ◌+◌, ◌/◌, ◌^◌, ◌≤◌, ◌<◌}
use Rattle.edf_runs.specs.Inside.Dividing.{DividesSizes}
use Rattle.edf_runs.proofs.division.divide.Given as goal

abbrev pub invariant-loop-before : goal.invariant-loop-before
invariant-loop-before l = record {
  some : 1 ≤ l.parts;
  most : l.parts ≤ l.before + 1;
  divides : DividesSizes l.duration l.sizes l.parts;
  longer : (other : ℕ) → 1 ≤ other → other ≤ l.before →
      DividesSizes l.duration l.sizes other →
      (10 ^ 9 < l.duration / other) × (other ≤ l.parts);
}
