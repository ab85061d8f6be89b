use Rattle.std.proofs.Common.{◌≡◌, replicate, string_bytes}
use Rattle.edfruns_command.proofs.naming.padded.Given as goal

abbrev pub invariant-loop : goal.invariant-loop
invariant-loop l = string_bytes l.text ≡ replicate l.counter 48
