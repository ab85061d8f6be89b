-- The keys that have data records are listed in one order.
use Rattle.std.specs.List.Sorted.{IsStrictlySortedBy}
use Rattle.std.specs.Cmp.Lexicographic.{slice_cmp}
use Rattle.std.specs.Ordering.{nat_cmp}
use Rattle.std.specs.declared.cmp.Ordering.{Ordering}
use Rattle.std.specs.Prelude.{◌≡◌, ◌≢◌, ◌↔◌, List, [], Contains}
use Rattle.edf_header.specs.Key.{Key, key_bytes}
use Rattle.edf_holdings.specs.Holdings.{Holdings}

-- keys are ordered by the bytes of their identities
abbrev pub key_cmp : Key → Key → Ordering
key_cmp k q = slice_cmp nat_cmp (key_bytes k) (key_bytes q)

-- these are all keys that have records, in the order of their bytes
pub record AreKeysOf (h : Holdings) (keys : List Key) : Type 0 where
  pub rising : IsStrictlySortedBy key_cmp keys
  pub held : (k : Key) → Contains keys k ↔ (h k ≢ [])

-- there is at most one such list
abbrev pub KeyListIsUnique : Type 0
KeyListIsUnique = (h : Holdings) (keys others : List Key) → AreKeysOf h keys → AreKeysOf h others →
    keys ≡ others
