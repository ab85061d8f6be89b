use Rattle.std.proofs.Common.{◌≡◌, ◌≤◌, take}
use Rattle.std.specs.Prelude.{not, count_by}
use Rattle.edf_runs.specs.Inside.Counting.{lies_at}
use Rattle.edf_runs.specs.Inside.Stretching.{Rise}
use Rattle.edf_runs.proofs.outside.outside_in.Given as goal

abbrev pub invariant-loop-note : goal.invariant-loop-note
invariant-loop-note l = record {
  few : l.outside ≤ l.note-index;
  counted : Rise l.duration 0 l.starts → l.outside
      ≡ count_by (λ a. not (lies_at l.duration l.starts a.onset)) (take l.note-index l.notes);
}
