-- The table `record` has a row for each data record of a recording.
use Rattle.std.specs.Prelude.{◌≡◌, ◌&&◌, ℤ, Bool, List, [], ◌∷◌, filter}
use Rattle.std.specs.declared.cmp.Ordering.TheVariants.{Less}
use Rattle.std.specs.Ordering.{is_lt, is_gt, is_ge}
use Rattle.sqlite.specs.declared.types.Value.TheVariants.{Int}
use Rattle.sqlite.specs.Order.{Row}
use Rattle.sqlite.specs.State.{State}
use Rattle.sqlite_value.specs.Order.{value_cmp}
use Rattle.sqlite_trees.specs.Tree.{IsAscending}
use Rattle.sqlite_keyed.specs.Lists.{sort_by}
use Rattle.edf_tables.specs.Columns.{stored_records, stored_start, stored_samples, stored_block}
use Rattle.edf_tables.specs.Columns.{start_order, is_of}
use Rattle.edf_tables.specs.Schema.{HasBoth}

-- sorts the rows of a recording by their starts
abbrev pub records_of : ℤ → List Row → List Row
records_of n rows = sort_by start_order (filter (is_of n) rows)

-- each starts after the one before it
abbrev pub HaveRisingStarts : List Row → Type 0
HaveRisingStarts = IsAscending (λ a b. start_order a b ≡ Less)

abbrev pub starts_after : ℤ → Row → Bool
starts_after after row = is_gt (value_cmp (stored_start row) (Int after))

abbrev pub starts_from : ℤ → Row → Bool
starts_from from row = is_ge (value_cmp (stored_start row) (Int from))

abbrev pub starts_between : ℤ → ℤ → Row → Bool
starts_between after before row =
    starts_after after row && is_lt (value_cmp (stored_start row) (Int before))

-- a query shows the start, the samples and the block
abbrev pub shown_record : Row → Row
shown_record row = stored_start row ∷ stored_samples row ∷ stored_block row ∷ []

-- the tables are there, and no two records of this recording start together
pub record IsReady (recording : ℤ) (s : State) : Type 0 where
  pub schema : HasBoth s.now.schema
  pub rising : HaveRisingStarts (records_of recording (stored_records s.now.trees))
