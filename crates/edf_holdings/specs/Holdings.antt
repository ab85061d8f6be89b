-- Holdings are the data records that are held, key by key.
use Rattle.std.specs.Prelude.{◌≢◌, ℕ, ◌≤◌, cond, List, [], length, All, Contains}
use Rattle.edf_field.specs.Number.{duration_of}
use Rattle.edf_header.specs.Key.{Key, IsKey}
use Rattle.edf_fragment.specs.Fragment.{DataRecord}
use Rattle.edf_holdings.specs.Same.{same_key}
use Rattle.edf_holdings.specs.Clash.{NoClash}
use Rattle.edf_holdings.specs.Rising.{IsRising, union}
use Rattle.edf_fragment.specs.Sound.{IsSoundRecord, FirstMayStart}

-- each key has a list of data records, which is empty where none are held
abbrev pub Holdings : Type 0
Holdings = Key → List DataRecord

abbrev pub nothing_held : Holdings
nothing_held = λ k. []

-- a key's records rise, don't clash, fit the key and are at most `cap`; a recording may begin with
-- the first of them; finitely many keys have any, and headers can name them
pub record IsSound (cap : ℕ) (h : Holdings) : Type 0 where
  pub rising : (k : Key) → IsRising (h k)
  pub no_clash : (k : Key) → NoClash (duration_of k.duration) (h k)
  pub within_cap : (k : Key) → length (h k) ≤ cap
  pub records : (k : Key) → All (IsSoundRecord k) (h k)
  pub begins : (k : Key) → FirstMayStart k (h k)
  pub keys : (k : Key) → h k ≢ [] → IsKey k
  pub finite : (keys : List Key) × ((k : Key) → h k ≢ [] → Contains keys k)

-- adds these records to those that the key has
abbrev pub with_records : Key → List DataRecord → Holdings → Holdings
with_records key records h = λ k. cond (same_key key k) (union (h k) records) (h k)
