use Rattle.std.proofs.Common.{◌≡◌, ◌≤◌, ◌+◌, ◌<◌, ℕ, length, get_or, max}
use Rattle.edf_picture.specs.Gaps.{gap_between}
use Rattle.edf_picture.specs.declared.extent.Extent.{Extent}
use Rattle.edf_picture.proofs.gaps.gaps_between.Given as goal

abbrev pub invariant-loop-place : goal.invariant-loop-place
invariant-loop-place l = record {
  count : length l.gaps.items + 1 ≡ l.place;
  within : l.place ≤ max 1 (length l.runs);
  each : (nth : ℕ) (d : Extent) → nth < length l.gaps.items → get_or l.gaps.items nth d
      ≡ gap_between (get_or l.runs nth d) (get_or l.runs (nth + 1) d);
}
