use Rattle.edf_time.proofs.Short.{IsShortest-short, length-short-some, length-short-most}
use Rattle.edf_time.proofs.Short.{length-short-window}
use Rattle.edf_time.proofs.laws.is_shortest.Goals as goal

pub returns : goal.returns
returns c = record {
  shortest = IsShortest-short;
  some = length-short-some;
  most =
      length-short-most;
  in_window = length-short-window;
}
