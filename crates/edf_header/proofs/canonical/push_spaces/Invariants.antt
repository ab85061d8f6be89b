use Rattle.std.proofs.Common.{◌≡◌, ◌++◌}
use Rattle.edf_field.specs.Text.{spaces}
use Rattle.edf_header.proofs.canonical.push_spaces.Given as goal

abbrev pub invariant-loop : goal.invariant-loop
invariant-loop l = l.out.items ≡ l.fn.out.items ++ spaces l.counter
