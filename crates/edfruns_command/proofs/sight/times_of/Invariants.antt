use Rattle.std.proofs.Common.{◌≡◌, take, map}
use Rattle.edfruns_command.specs.Picturing.{run_time}
use Rattle.edfruns_command.proofs.sight.times_of.Given as goal

abbrev pub invariant-loop-run : goal.invariant-loop-run
invariant-loop-run l =
    l.times.items ≡ map (run_time l.fn.duration) (take l.run-index l.runs)
