-- What is missing between runs.
use Rattle.std.specs.Prelude.{◌≡◌, ◌-◌, ◌+◌, ◌<◌, ℕ, List, length, get_or}
use Rattle.edf_picture.specs.declared.extent.Extent.{Extent}

-- from the end of a run to the start of the next
abbrev pub gap_between : Extent → Extent → Extent
gap_between before after = record { from = before.to; to = after.from }

-- one gap between every two runs that are neighbours, in their order
pub record AreGaps (runs gaps : List Extent) : Type 0 where
  pub count : length gaps ≡ length runs - 1
  pub each : (nth : ℕ) (d : Extent) → nth < length gaps →
      get_or gaps nth d ≡ gap_between (get_or runs nth d) (get_or runs (nth + 1) d)
