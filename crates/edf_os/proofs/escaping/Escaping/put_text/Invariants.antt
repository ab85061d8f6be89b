use Rattle.std.proofs.Common.{length, ◌-◌, ◌≡◌}
use Rattle.edf_os.proofs.escaping.Escaping.put_text.Given as goal

abbrev pub invariant-loop-at : goal.invariant-loop-at
invariant-loop-at g l =
    g.W.Output.failures l.self.stream ≡ g.W.Output.failures l.initial.self.stream

abbrev pub decreases-loop-at : goal.decreases-loop-at
decreases-loop-at g l = length l.text - l.at
