use Rattle.std.proofs.Common.{◌-◌, ◌≡◌, ◌++◌, ◌≤◌, List, ℕ, length, take}
use Rattle.std.specs.Io.KnownBytes.{Consumes}
use Rattle.edf_serve.proofs.lines.gather.Given as goal

abbrev pub invariant-loop-to : goal.invariant-loop-to
invariant-loop-to g l = (l.to ≤ length l.buffer) × (length l.buffer ≡ 65537)
    × ((more : List ℕ)
    × Consumes (g.R.Input.remaining l.fn.input) (g.R.Input.remaining l.input) more
    × (take l.to l.buffer ≡ take l.fn.end l.fn.buffer ++ more))
    × (g.R.Input.failures l.input ≡ g.R.Input.failures l.fn.input)

abbrev pub decreases-loop-to : goal.decreases-loop-to
decreases-loop-to g l = 65537 - l.to
