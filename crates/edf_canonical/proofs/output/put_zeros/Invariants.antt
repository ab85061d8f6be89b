use Rattle.std.proofs.Common.{◌≡◌, ◌-◌, ◌≤◌, replicate}
use Rattle.edf_canonical.specs.Output.{buffered, Writes}
use Rattle.edf_canonical.proofs.output.put_zeros.Given as goal

abbrev pub invariant-loop-left : goal.invariant-loop-left
invariant-loop-left g l = record {
  within : l.left ≤ l.count;
  wrote : Writes (buffered g.W.Output l.initial.out l.initial.held.bytes.items)
      (buffered g.W.Output l.out l.held.bytes.items) (replicate (l.count - l.left) 0)
      l.held.bytes.items;
  count_is : g.W.Output.failures l.out ≡ g.W.Output.failures l.initial.out;
}

abbrev pub decreases-loop-left : goal.decreases-loop-left
decreases-loop-left g l = l.left
