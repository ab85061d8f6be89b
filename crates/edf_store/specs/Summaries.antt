-- A store summarizes its holdings.
use Rattle.std.specs.Prelude.{◌≡◌, ℕ, List, [], length, reverse, slice_get, Option, Some, None}
use Rattle.std.specs.Option.{option_map}
use Rattle.sqlite_trees.specs.declared.store.Store.{Ghosts}
use Rattle.edf_header.specs.Key.{Key}
use Rattle.edf_fragment.specs.Fragment.{DataRecord}
use Rattle.edf_holdings.specs.Holdings.{Holdings}
use Rattle.edf_holdings.specs.Keys.{AreKeysOf}
use Rattle.edf_store.specs.Held.{StoreModel, Holds}
use Rattle.edf_store.specs.declared.summaries.Summary.{Summary}

-- these are the keys that have records in the store
abbrev pub AreKeysHeld : {S : Type 0} → Ghosts S → StoreModel S → List Key → Type 0
AreKeysHeld g store keys = (h : Holdings) → Holds g store h → AreKeysOf h keys

abbrev pub start_at : List DataRecord → ℕ → Option ℕ
start_at records place = option_map (λ (r : DataRecord). r.start) (slice_get records place)

-- `Some`: the count of records, their first and their last start; `None`: there are no records
abbrev pub IsSummary : List DataRecord → Option Summary → Type 0
IsSummary records None = records ≡ []
IsSummary records (Some summary) =
    (summary.records ≡ length records) × (start_at records 0 ≡ Some summary.first)
    × (start_at (reverse records) 0 ≡ Some summary.last)

abbrev pub IsSummaryOf : {S : Type 0} → Ghosts S → StoreModel S → Key → Option Summary → Type 0
IsSummaryOf g store k summary = (h : Holdings) → Holds g store h → IsSummary (h k) summary
