use Rattle.std.proofs.Common.{◌≡◌, ◌*◌, ◌++◌, length, drop}
use Rattle.std.specs.Prelude.{sum}
use Rattle.edf_runs.specs.Inside.Dividing.{part_of}
use Rattle.edf_runs.proofs.division.push_part.Given as goal

abbrev pub invariant-loop-size : goal.invariant-loop-size
invariant-loop-size l = record {
  sized : 2 * sum (drop l.size-index l.sizes) ≡ length l.left;
  whole : l.initial.out.items ++ part_of l.sizes l.parts l.nth l.samples
      ≡ l.out.items ++ part_of (drop l.size-index l.sizes) l.parts l.nth l.left;
}
