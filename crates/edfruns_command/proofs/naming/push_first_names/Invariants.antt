use Rattle.std.proofs.Common.{◌≡◌, ◌++◌, map, string_bytes}
use Rattle.std.specs.List.{range_with_len}
use Rattle.edfruns_command.specs.Naming.{run_name}
use Rattle.edfruns_command.proofs.naming.push_first_names.Given as goal

abbrev pub invariant-loop-at : goal.invariant-loop-at
invariant-loop-at l = map string_bytes l.names.items ≡ map string_bytes l.initial.names.items
    ++ map (λ width. run_name l.prefix width 1) (range_with_len 1 l.at)
